-- Every step keeps the invariant: a refused one changes nothing, and an accepted one by cases on what it asks for.
-- Assumes nothing.
use Prim.Native.Nat.{ℕ}
use mathlib.Core.Path.{◌≡◌, refl, sym}
use mathlib.Core.Bool.{true}
use mathlib.Core.List.{List, [], ◌∷◌, append-nil}
use Rattle.std.specs.Prelude.{None, Some}
use Rattle.boosting.specs.Object.{Call, State, reply}
use Rattle.boosting.specs.Undo.{Entry, inverse}
use Rattle.boosting.specs.Store.{«open», aborting, closed_transaction, Store, valid, transaction, put}
use Rattle.boosting.specs.Rows.{Action, begin, commit, abort, roll_back, call, request}
use Rattle.boosting.specs.Step.{accept, undo_newest, aborted, perform}
use Rattle.boosting.specs.Replay.{since, committed}
use Rattle.boosting.proofs.ObjectLaws.{Good}
use Rattle.boosting.proofs.Trace.{Item, mine, entries, undo_all, newest}
use Rattle.boosting.proofs.Invariant.{Invariant, begin_keeps, call_keeps, commit_keeps, cut_keeps}
use Rattle.boosting.proofs.Accepted.{Accepts, asks, accepted_valid, accepted_standing, no_call, accepted_call}

-- the item of an accepted call
abbrev pub item_of : Store → ℕ → Call → Item
item_of d e c = record { of = e; call = c; reply = reply c d.state }

module _ (start : State) (g : Good start) (d : Store) (pending : ℕ → List Item) (settled : List Item) (e : ℕ)
    (v : Invariant start d pending settled) where
  abbrev Kept : Store → Type 0
  Kept d' = Invariant start d' pending settled

  module _ (ok : valid e ≡ true) where
    -- an abort takes nothing back
    abort_keeps : (transaction d e).standing ≡ «open» → Kept (put d d.state e (aborted (transaction d e)))
    unfolding entries undo_all
    abort_keeps st =
        cut_keeps start g d pending settled e v ok d.state (aborted (transaction d e)) [] (mine e v.trace) refl refl
        (λ k. cc) (λ k. cc) (λ k. refl) (λ k. v.logs e (λ s. cc))

    -- a rollback step takes back the calls down to the newest entry, and all that are left when it closes
    module _ (st : (transaction d e).standing ≡ aborting) where
      log_is : (transaction d e).log ≡ entries (mine e v.trace)
      log_is = v.logs e (λ s. cc)

      close : (s : State) → s ≡ undo_all (transaction d e).log d.state → Kept (put d s e closed_transaction)
      unfolding closed_transaction
      close s w =
          cut_keeps start g d pending settled e v ok s closed_transaction (mine e v.trace) []
          (sym (append-nil (mine e v.trace))) (cc (log_is)) (λ k. cc) (λ k. refl) (λ k. absurd (k refl))
          (λ k. absurd (k refl))

      undo_keeps : (l : List Entry) → (transaction d e).log ≡ l → Kept (undo_newest d e l).store
      unfolding undo_all
      undo_keeps [] l = close d.state (cc)
      undo_keeps (n ∷ []) l = close (inverse n d.state) (cc)
      undo_keeps (n ∷ m ∷ ms) l =
          let t = newest (mine e v.trace) n (m ∷ ms) (cc (log_is)) in
          cut_keeps start g d pending settled e v ok (inverse n d.state) _ t.q t.p t.parts (cc (t.top)) (λ k. cc)
          (λ k. cc) (λ k. refl) (λ k. sym t.under)

  -- what is to hold after an accepted action, and holds
  abbrev After : Action → Type 0
  After a =
      Invariant start (perform d e a).store (λ f. since f (request e a) (item_of d e) (pending f))
      (committed (request e a) pending settled)

  pub perform_keeps : (a : Action) → Accepts d e a → After a
  unfolding perform accept
  perform_keeps a h = go a h (accepted_valid d e a h) (accepted_standing d e a h)
    where
      go : (a : Action) → Accepts d e a → valid e ≡ true → (transaction d e).standing ≡ asks a → After a
      go begin h ok st = begin_keeps start g d pending settled e v ok st
      go commit h ok st = commit_keeps start g d pending settled e v ok st
      go abort h ok st = abort_keeps ok st
      go roll_back h ok st = undo_keeps ok st (transaction d e).log refl
      go (call None) h ok st = no_call d e h
      go (call (Some c)) h ok st = call_keeps start g d pending settled e v ok c st (accepted_call d e c h).free
