-- Term 2: a call waits exactly when another unclosed transaction holds a conflicting lock, and an accepted call does
-- what the plain operation does. Assumes nothing.
use Prim.Native.Nat.{ℕ, zero, suc, ◌+◌, ◌-◌, ◌<◌, ◌≤◌}
use mathlib.Core.Path.{◌≡◌, refl}
use mathlib.Core.Bool.{Bool, true, false}
use mathlib.Core.List.{List, [], ◌∷◌}
use Rattle.std.specs.Prelude.{Option, None, Some, ◌↔◌}
use Rattle.std.proofs.lemmas.Bool.{cases_order}
use Rattle.std.proofs.lemmas.Grind.{get_or_head, get_or_tail}
use native.Mathlib.Omega.{arith}
use lib.ListN.{length, get_or}
use Rattle.refusals.specs.declared.Refusal.TheVariants.{Blocked, LocksFull, UndoLogFull, ScriptFull, QueueFull}
use Rattle.boosting.specs.Object.{Call}
use Rattle.boosting.specs.Locks.{Lock, lock_of, conflicts}
use Rattle.boosting.specs.Store.{«open», Transaction, closed_transaction, Store, valid, transaction, put, blocker}
use Rattle.boosting.specs.Rows.{call, request, when, blocked_by, first_met, refusal_of}
use Rattle.boosting.specs.Step.{accept, perform}
use Rattle.boosting.specs.Sound.{Sound}
use Rattle.boosting.specs.Theorems.{InTheWay, BlockedExactly, Done, AcceptedCallsDo}
use Rattle.boosting.proofs.ObjectLaws.{no_locks_no_conflict, holds_new}
use Rattle.boosting.proofs.StoreLaws.{range_valid, put_same, put_other, no_conflict}
use Rattle.boosting.proofs.Accepted.{accepted_valid, step_accepted}
use Rattle.boosting.proofs.Refusals.{refused_exactly}
use Rattle.boosting.proofs.Keeping.{transaction-Sound}

-- ---- the search for the transaction in the way

-- the first transaction in conflict, by its number, in a list whose first has the number i
record Found (e : ℕ) (k : Lock) (i : ℕ) (ts : List Transaction) (f : ℕ) : Type 0 where
  pub from : i ≤ f
  pub within : f < i + length ts
  pub other : f ≡ e → ⊥
  pub conflict : conflicts k (get_or ts (f - i) closed_transaction).locks ≡ true
  pub lowest : (j : ℕ) → i + j < f → (i + j ≡ e → ⊥) → conflicts k (get_or ts j closed_transaction).locks ≡ false

found : (e : ℕ) (k : Lock) (i : ℕ) (ts : List Transaction) (f : ℕ) → blocker e k i ts ≡ Some f → Found e k i ts f
unfolding blocker
found e k i [] f h = cc
found e k i (t ∷ ts) f h = grind (arith, found e k (suc i) ts f, get_or_head, get_or_tail)

-- ---- row 8 decides

-- of the rows of a call, the first alone speaks of a conflict
row_8 : (f : ℕ) (o : Option ℕ) (a b c d : Bool)
    → (first_met (blocked_by o ∷ when a LocksFull ∷ when b UndoLogFull ∷ when c ScriptFull ∷ when d QueueFull ∷ [])
    ≡ Some (Blocked f)) ↔ (o ≡ Some f)
unfolding first_met
row_8 f o a b c d = grind arith

-- a call that passes the earlier checks is left to its own rows
blocked : (d : Store) (e f : ℕ) (c : Call) → valid e ≡ true → (transaction d e).standing ≡ «open»
    → (refusal_of d (request e (call (Some c))) ≡ Some (Blocked f)) ↔ (blocker e (lock_of c) 1 d.transactions ≡ Some f)
unfolding refusal_of first_met
blocked d e f c v s = rw (v, s) (row_8 f _ _ _ _ _)

-- ---- the one in the way

in_the_way : (d : Store) (e f : ℕ) (k : Lock) → Sound d → blocker e k 1 d.transactions ≡ Some f → InTheWay d e k f
unfolding transaction closed_transaction
in_the_way d e zero k w h = absurd (omega (arith, found e k 1 d.transactions 0 h))
in_the_way d e (suc j) k w h =
    let r = found e k 1 d.transactions (suc j) h in
    let n : suc j - 1 ≡ j = omega arith in
    let c = rw n at r.conflict in
    let idle = (transaction-Sound d (suc j) w).closed_holds_nothing in
    record {
      number = range_valid (suc j) (omega arith) (omega (arith, r.within, w.eight));
      other = r.other;
      unclosed = λ q. cc (idle q, no_locks_no_conflict k, c);
      conflict = c;
      lowest = below;
    }
  where
    below : (g : ℕ) → valid g ≡ true → g < suc j → (g ≡ e → ⊥) → conflicts k (transaction d g).locks ≡ false
    below zero v h o = cc
    below (suc g) v b o = (found e k 1 d.transactions (suc j) h).lowest g (omega arith) (λ q. o (omega arith))

-- and back: nobody else is
way_found : (d : Store) (e f : ℕ) (k : Lock) → Sound d → InTheWay d e k f → blocker e k 1 d.transactions ≡ Some f
way_found d e f k w r = go (blocker e k 1 d.transactions) refl
  where
    go : (o : Option ℕ) → blocker e k 1 d.transactions ≡ o → blocker e k 1 d.transactions ≡ Some f
    go None h = cc (no_conflict d e k h f r.other, r.conflict)
    go (Some g) h =
        let s = in_the_way d e g k w h in
        grind (arith, cases_order f g, s.lowest f r.number, r.lowest g s.number)

pub blocked_exactly : BlockedExactly
blocked_exactly d e f c w v s =
    let a = refused_exactly d (request e (call (Some c))) (Blocked f) in
    let b = blocked d e f c v s in
    (λ h. in_the_way d e f (lock_of c) w (b.0 (a.0 h)), λ r. a.1 (b.1 (way_found d e f (lock_of c) w r)))

-- ---- an accepted call

does : (d : Store) (e : ℕ) (c : Call) → length d.transactions ≡ 8 → valid e ≡ true → Done d e c (accept d e c)
unfolding accept put
does d e c n v = grind (arith, put_same, put_other, holds_new)

pub accepted_calls_do : AcceptedCallsDo
unfolding perform
accepted_calls_do d e c w h =
    rw (step_accepted d e (call (Some c)) h) (does d e c w.eight (accepted_valid d e (call (Some c)) h))
