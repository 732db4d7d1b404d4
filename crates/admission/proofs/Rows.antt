-- The rows of a call: those of its locks, then those of room. Assumes nothing.
use Rattle.std.proofs.Common.{
  ◌≡◌,
  ℕ,
  ◌+◌,
  ◌<◌,
  Bool,
  true,
  false,
  List,
  ◌∷◌,
  length,
  get_or,
  refl,
  sym,
  ap,
  ◌∙◌,
  add-one,
}
use Rattle.std.specs.Prelude.{Option, None, Some, Ok, Err}
use Rattle.std.proofs.lemmas.List.{get_or_default}
use Rattle.refusals.specs.declared.Refusal.{Refusal}
use Rattle.boosting.specs.Object.{Call, State, reply}
use Rattle.boosting.specs.Undo.{Entry, entry_of}
use Rattle.boosting.specs.Locks.{Lock, Locks, lock_of}
use Rattle.boosting.specs.Store.{Transaction, closed_transaction, Store, transaction, blocker}
use Rattle.boosting.specs.Room.{locks_full}
use Rattle.boosting.specs.Rows.{when, call_rows, first_met}
use Rattle.admission.specs.Answers.{admitted, room_rows, store_of}

-- the transaction of a number stands at the place before it: what locks and log are there are its own
module _ (s : State) (ts : List Transaction) (e i : ℕ) (t : Transaction) (p : i + 1 ≡ e) (h : i < length ts) where
  pub place : transaction (store_of s ts) e ≡ get_or ts i t
  unfolding transaction
  place = rw (← p, add-one) (get_or_default ts i closed_transaction t h)

  pub locks_at : (l : Locks) → l ≡ (get_or ts i t).locks → (transaction (store_of s ts) e).locks ≡ l
  locks_at l q = ap (λ (t : Transaction). t.locks) place ∙ sym q

  pub log_at : (l : List Entry) → l ≡ (get_or ts i t).log → (transaction (store_of s ts) e).log ≡ l
  log_at l q = ap (λ (t : Transaction). t.log) place ∙ sym q

-- rows 10 to 12 come behind 8 and 9: what they say is the call's answer
module _ (d : Store) (e : ℕ) (c : Call) (l : Lock) (le : l ≡ lock_of c)
    (free : None ≡ blocker e l 1 d.transactions) (ls : Locks) (is : (transaction d e).locks ≡ ls)
    (h : false ≡ locks_full l ls) (n : Option Entry) (ne : n ≡ entry_of c (reply c d.state)) where
  pub behind : first_met (call_rows d e c) ≡ first_met (room_rows d e n)
  unfolding first_met
  behind = rw (← le, ← free, is, ← h, ne) refl

-- a row with none behind it that is met
pub one_row : {A : Type 0} (a : A) (b : Bool) (r : Refusal) (rows : List (Option Refusal)) → first_met rows ≡ None
    → admitted (when b r) a ≡ admitted (first_met (when b r ∷ rows)) a
unfolding first_met
one_row a true r rows h = refl
one_row a false r rows h = rw h refl

-- what an answer says of the row
pub admitted-Ok : {A : Type 0} (o : Option Refusal) (a b : A) → Ok a ≡ admitted o b → o ≡ None
admitted-Ok None a b e = refl
admitted-Ok (Some r) a b e = cc

pub admitted-Err : {A : Type 0} (o : Option Refusal) (a : A) (r : Refusal) → Err r ≡ admitted o a → o ≡ Some r
admitted-Err None a r e = cc
admitted-Err (Some q) a r e = cc
