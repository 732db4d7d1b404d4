-- Laws of the store: which numbers are transactions, what putting one transaction anew changes, and that no lock is in
-- conflict where the search for the transaction in the way finds none. Assumes nothing.
use Prim.Native.Nat.{ℕ, zero, suc, ◌+◌, ◌≤◌}
use mathlib.Core.Path.{◌≡◌}
use mathlib.Core.Bool.{true, false}
use mathlib.Core.List.{List, [], ◌∷◌}
use Rattle.std.specs.Prelude.{None}
use native.Mathlib.Omega.{arith}
use lib.ListN.{length, get_or, length-set}
use lib.Seq.{get_or-set_same, get_or-set_other}
use Rattle.std.proofs.lemmas.Grind.{get_or_head, get_or_tail}
use Rattle.boosting.specs.Object.{State}
use Rattle.boosting.specs.Locks.{Lock, conflicts}
use Rattle.boosting.specs.Store.{Transaction, closed_transaction, Store, valid, transaction}
use Rattle.boosting.specs.Store.{put, blocker}
use Rattle.boosting.proofs.ObjectLaws.{no_locks_no_conflict}

-- ---- numbers

pub valid_range : (e : ℕ) → valid e ≡ true → (1 ≤ e) × (e ≤ 8)
valid_range e h = grind arith

pub range_valid : (e : ℕ) → 1 ≤ e → e ≤ 8 → valid e ≡ true
range_valid e h k = grind arith

-- ---- one state and one transaction put

pub put_same : (d : Store) (s : State) (e : ℕ) (t : Transaction) → length d.transactions ≡ 8 → valid e ≡ true
    → transaction (put d s e t) e ≡ t
unfolding transaction put
put_same d s e t l h = grind (arith, get_or-set_same)

pub put_other : (d : Store) (s : State) (e f : ℕ) (t : Transaction) → (f ≡ e → ⊥)
    → transaction (put d s e t) f ≡ transaction d f
unfolding transaction put
put_other d s e f t n = grind (arith, get_or-set_other)

put-length : (d : Store) (s : State) (e : ℕ) (t : Transaction)
    → length (put d s e t).transactions ≡ length d.transactions
unfolding put
put-length d s e t = grind (arith, length-set {A = Transaction})

-- d' is d with t for the transaction e, and any state
pub record Changed (d d' : Store) (e : ℕ) (t : Transaction) : Type 0 where
  pub eight : length d'.transactions ≡ 8
  pub new : transaction d' e ≡ t
  pub old : (f : ℕ) → (f ≡ e → ⊥) → transaction d' f ≡ transaction d f

pub changed : (d : Store) (s : State) (e : ℕ) (t : Transaction) → length d.transactions ≡ 8 → valid e ≡ true
    → Changed d (put d s e t) e t
changed d s e t l h = record {
  eight = cc (put-length d s e t);
  new = put_same d s e t l h;
  old = λ f n. put_other d s e f t n;
}

-- ---- the search for the transaction in the way

no_blocker : (e : ℕ) (k : Lock) (i : ℕ) (ts : List Transaction) → blocker e k i ts ≡ None → (j : ℕ)
    → (i + j ≡ e → ⊥) → conflicts k (get_or ts j closed_transaction).locks ≡ false
unfolding closed_transaction blocker
no_blocker e k i [] h j n = no_locks_no_conflict k
no_blocker e k i (t ∷ ts) h j n = grind (arith, no_blocker e k (suc i) ts, get_or_head, get_or_tail)

-- where nobody is in the way no other transaction's locks conflict
pub no_conflict : (d : Store) (e : ℕ) (k : Lock) → blocker e k 1 d.transactions ≡ None → (f : ℕ) → (f ≡ e → ⊥)
    → conflicts k (transaction d f).locks ≡ false
unfolding transaction closed_transaction
no_conflict d e k h zero n = no_locks_no_conflict k
no_conflict d e k h (suc j) n = no_blocker e k 1 d.transactions h j (λ z. n (omega arith))
