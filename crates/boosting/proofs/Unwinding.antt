-- Rollback steps of one transaction: each closes it or takes one entry off its log, so that as many as it has entries,
-- or one if it has none, close it, and no fewer. What aborts and rollback steps keep, recovery keeps: so closed
-- transactions stay closed. Assumes nothing.
use Prim.Native.Nat.{ℕ, zero, suc, ◌≤◌, ◌<◌}
use mathlib.Core.Path.{◌≡◌}
use mathlib.Core.Bool.{true}
use mathlib.Core.List.{List, [], ◌∷◌}
use native.Mathlib.Omega.{arith}
use lib.ListN.{length}
use Rattle.boosting.specs.Undo.{Entry, inverse}
use Rattle.boosting.specs.Locks.{Locks}
use Rattle.boosting.specs.Store.{closed, aborting, Transaction, closed_transaction, Store, valid, transaction}
use Rattle.boosting.specs.Rows.{Action, abort, roll_back, request}
use Rattle.boosting.specs.Step.{accept, unwound, undo_newest, perform, step_on}
use Rattle.boosting.specs.Recovery.{roll_backs, recover_one, recover}
use Rattle.boosting.proofs.StoreLaws.{put_other, Changed, changed}
use Rattle.boosting.proofs.Accepted.{asks, accepted_standing, step_case, step_accepted, Accepts-roll_back}

abbrev pub rolled_back : Store → ℕ → Store
rolled_back d e = (step_on d (request e roll_back)).store

abbrev pub Closed : Store → ℕ → Type 0
Closed d f = (transaction d f).standing ≡ closed

-- ---- transactions that a step does not name, and closed ones

perform_other : (d : Store) (e f : ℕ) (a : Action) → (f ≡ e → ⊥)
    → transaction (perform d e a).store f ≡ transaction d f
unfolding perform accept
perform_other d e f a n = grind (arith, put_other)

-- a step that asks for an unclosed transaction leaves closed ones closed
pub step_stays : (d : Store) (e : ℕ) (a : Action) → (asks a ≡ closed → ⊥) → (f : ℕ) → Closed d f
    → Closed (step_on d (request e a)).store f
step_stays d e a n f s =
    step_case d e a (λ o. Closed o.store f) (λ r h. s)
    (λ h. rw (perform_other d e f a (λ q. n (cc (accepted_standing d e a h)))) s)

-- ---- what aborts and rollback steps keep, recovery keeps

abbrev pub aborted_at : Store → ℕ → Store
aborted_at d e = (step_on d (request e abort)).store

module _ (P : Store → Type 0) (rolls : (d : Store) (e : ℕ) → P d → P (rolled_back d e)) where
  pub rolls_keep : (n : ℕ) (d : Store) (e : ℕ) → P d → P (roll_backs n d e)
  unfolding roll_backs
  rolls_keep zero d e p = p
  rolls_keep (suc n) d e p = rolls_keep n (rolled_back d e) e (rolls d e p)

  module _ (aborts : (d : Store) (e : ℕ) → P d → P (aborted_at d e)) where
    pub one_keeps : (d : Store) (e : ℕ) → P d → P (recover_one d e)
    unfolding recover_one
    one_keeps d e p = rolls_keep (suc (length (transaction d e).log)) (aborted_at d e) e (aborts d e p)

    pub recovery_keeps : (order : List ℕ) (d : Store) → P d → P (recover d order)
    unfolding recover
    recovery_keeps [] d p = p
    recovery_keeps (e ∷ es) d p = recovery_keeps es (recover_one d e) (one_keeps d e p)

pub rolls_stay : (f n : ℕ) (d : Store) (e : ℕ) → Closed d f → Closed (roll_backs n d e) f
rolls_stay f = rolls_keep (λ d. Closed d f) (λ d e. step_stays d e roll_back (λ k. cc) f)

pub recovery_stays : (f : ℕ) (order : List ℕ) (d : Store) → Closed d f → Closed (recover d order) f
recovery_stays f =
    recovery_keeps (λ d. Closed d f) (λ d e. step_stays d e roll_back (λ k. cc) f)
    (λ d e. step_stays d e abort (λ k. cc) f)

-- ---- one rollback step

-- the rollback steps that a log takes after the first
abbrev pub further : List Entry → ℕ
further [] = 0
further (n ∷ log) = length log

pub further_at_most : (log : List Entry) → further log ≤ length log
further_at_most log = grind arith

-- what a rollback step leaves of the transaction
abbrev left : List Entry → Locks → Transaction
left [] l = closed_transaction
left (n ∷ log) l = unwound log l

-- an aborting transaction that takes so many steps after the first
pub record Aborting (d : Store) (e m : ℕ) : Type 0 where
  pub eight : length d.transactions ≡ 8
  pub standing : (transaction d e).standing ≡ aborting
  pub steps : further (transaction d e).log ≡ m

-- ---- so many rollback steps

module _ (e : ℕ) (h : valid e ≡ true) where
  rolled_back_lem : (d : Store) (m : ℕ) → Aborting d e m
      → Changed d (rolled_back d e) e (left (transaction d e).log (transaction d e).locks)
  unfolding perform
  rolled_back_lem d m a =
      rw (step_accepted d e roll_back (Accepts-roll_back d e h a.standing), rolled_back) (go (transaction d e).log)
    where
      go : (log : List Entry) → Changed d (undo_newest d e log).store e (left log (transaction d e).locks)
      go [] = changed d d.state e closed_transaction a.eight h
      go (n ∷ log) = changed d (inverse n d.state) e (unwound log (transaction d e).locks) a.eight h

  -- it closes if there is no further step; or else it is aborting with one step fewer to take
  one_fewer : (d : Store) (m : ℕ) → Aborting d e (suc m) → Aborting (rolled_back d e) e m
  one_fewer d m a =
      let r = rolled_back_lem d (suc m) a in
      grind arith

  last : (d : Store) → Aborting d e 0 → Closed (rolled_back d e) e
  unfolding closed_transaction
  last d a =
      let r = rolled_back_lem d 0 a in
      grind arith

  pub closes : (n m : ℕ) (d : Store) → m ≤ n → Aborting d e m → Closed (roll_backs (suc n) d e) e
  unfolding roll_backs
  closes n zero d b a = rolls_stay e n (rolled_back d e) e (last d a)
  closes zero (suc m) d b a = absurd (omega arith)
  closes (suc n) (suc m) d b a = closes n m (rolled_back d e) (omega arith) (one_fewer d m a)

  pub stays : (n m : ℕ) (d : Store) → n < suc m → Aborting d e m
      → (transaction (roll_backs n d e) e).standing ≡ aborting
  unfolding roll_backs
  stays zero m d b a = a.standing
  stays (suc n) zero d b a = absurd (omega arith)
  stays (suc n) (suc m) d b a = stays n m (rolled_back d e) (omega arith) (one_fewer d m a)
