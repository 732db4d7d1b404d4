-- Recovery keeps the invariant with the same settled calls, and closes each transaction that it is told to recover: an
-- abort leaves it not open, and rollback steps close it. Assumes nothing.
use Prim.Native.Nat.{ℕ, zero, suc, ◌≤◌}
use mathlib.Core.Path.{◌≡◌, refl}
use mathlib.Core.Bool.{true, false}
use mathlib.Core.List.{List, [], ◌∷◌}
use native.Mathlib.Omega.{arith}
use lib.ListN.{length}
use Rattle.std.proofs.lemmas.Bool.{true_from_ne_false}
use Rattle.std.proofs.lemmas.List.{get_or_past}
use Rattle.tables.specs.Table.{member_of}
use Rattle.boosting.specs.Object.{State}
use Rattle.boosting.specs.Store.{Standing, closed, «open», aborting, closed_transaction, Store, valid, transaction}
use Rattle.boosting.specs.Rows.{abort, roll_back}
use Rattle.boosting.specs.Step.{aborted, perform}
use Rattle.boosting.specs.Recovery.{roll_backs, recover_one, recover}
use Rattle.boosting.proofs.ObjectLaws.{Good}
use Rattle.boosting.proofs.Trace.{Item}
use Rattle.boosting.proofs.StoreLaws.{changed}
use Rattle.boosting.proofs.Invariant.{Invariant}
use Rattle.boosting.proofs.Accepted.{accepted_valid, step_case, Accepts-abort}
use Rattle.boosting.proofs.Unwinding.{rolled_back, aborted_at, Closed, one_keeps, recovery_keeps, rolls_stay}
use Rattle.boosting.proofs.Unwinding.{recovery_stays, further, further_at_most, closes}
use Rattle.boosting.proofs.Stepping.{perform_keeps}

-- ---- numbers out of range

invalid_closed : (d : Store) (e : ℕ) → length d.transactions ≡ 8 → valid e ≡ false → (transaction d e).standing ≡ closed
unfolding transaction closed_transaction
invalid_closed d zero l h = refl
invalid_closed d (suc i) l h = grind (arith, get_or_past)

pub unclosed_valid : (d : Store) (e : ℕ) → length d.transactions ≡ 8 → ((transaction d e).standing ≡ closed → ⊥)
    → valid e ≡ true
unclosed_valid d e l n = true_from_ne_false (valid e) (λ h. n (invalid_closed d e l h))

module _ (start : State) (g : Good start) (pending : ℕ → List Item) (settled : List Item) where
  abbrev Inv : Store → Type 0
  Inv d = Invariant start d pending settled

  -- ---- aborts and rollback steps are steps that the replay does not see

  abort_keeps : (d : Store) (e : ℕ) → Inv d → Inv (aborted_at d e)
  abort_keeps d e v =
      step_case d e abort (λ o. Inv o.store) (λ r h. v) (perform_keeps start g d pending settled e v abort)

  roll_back_keeps : (d : Store) (e : ℕ) → Inv d → Inv (rolled_back d e)
  roll_back_keeps d e v =
      step_case d e roll_back (λ o. Inv o.store) (λ r h. v) (perform_keeps start g d pending settled e v roll_back)

  pub recovery_kept : (order : List ℕ) (d : Store) → Inv d → Inv (recover d order)
  recovery_kept = recovery_keeps Inv roll_back_keeps abort_keeps

  -- ---- recovery closes

  -- an abort leaves e not open, and its log as it is
  abort_not_open : (d : Store) (e : ℕ) → Inv d
      → ((transaction (aborted_at d e) e).standing ≡ «open» → ⊥)
      × ((transaction (aborted_at d e) e).log ≡ (transaction d e).log)
  unfolding perform
  abort_not_open d e v =
      step_case d e abort
      (λ o. ((transaction o.store e).standing ≡ «open» → ⊥) × ((transaction o.store e).log ≡ (transaction d e).log))
      (λ r h. ((λ s. cc (Accepts-abort d e (unclosed_valid d e v.eight (λ k. cc)) s)), refl))
      (λ h.
      let x = aborted (transaction d e) in
      let c = changed d d.state e x v.eight (accepted_valid d e abort h) in
      rw c.new ((λ s. cc), refl))

  one_closes : (d : Store) (e : ℕ) → Inv d → Closed (recover_one d e) e
  unfolding recover_one
  one_closes d e v = go (transaction (aborted_at d e) e).standing refl
    where
      n : ℕ
      n = length (transaction d e).log

      w : Inv (aborted_at d e)
      w = abort_keeps d e v

      go : (s : Standing) → (transaction (aborted_at d e) e).standing ≡ s
          → Closed (roll_backs (suc n) (aborted_at d e) e) e
      go closed q = rolls_stay e (suc n) (aborted_at d e) e q
      go «open» q = absurd ((abort_not_open d e v).0 q)
      go aborting q =
          let log = (transaction (aborted_at d e) e).log in
          let ok = unclosed_valid (aborted_at d e) e w.eight (λ s. cc) in
          let m : further log ≤ n = rw (← (abort_not_open d e v).1) (further_at_most log) in
          closes e ok n (further log) (aborted_at d e) m (record { eight = w.eight; standing = q; steps = refl })

  pub recovery_closes : (order : List ℕ) (d : Store) → Inv d → (f : ℕ) → member_of f order ≡ true
      → Closed (recover d order) f
  unfolding recover member_of
  recovery_closes [] d v f m = cc
  recovery_closes (e ∷ es) d v f m =
      let k = one_keeps Inv roll_back_keeps abort_keeps d e v in
      grind (
        arith,
        one_closes d e v,
        recovery_stays f es (recover_one d e),
        recovery_closes es (recover_one d e) k f,
      )
