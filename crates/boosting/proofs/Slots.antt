-- Laws of slots: which keys have a script slot, how many queue slots the take entries hold, and what putting one
-- transaction anew does to both. A log names the keys of its add and remove entries: with those of the script they are
-- all that has a slot. Assumes nothing.
use Prim.Native.Nat.{ℕ, zero, suc, ◌+◌, ◌≤◌, ◌<◌}
use mathlib.Core.Path.{◌≡◌, refl}
use mathlib.Core.Bool.{Bool, true, false, ◌||◌}
use mathlib.Core.List.{List, [], ◌∷◌}
use mathlib.Core.Logic.{◌⊎◌, inr}
use native.Mathlib.Omega.{arith}
use lib.Dec.{eqb}
use lib.ListN.{length, get_or, set}
use Rattle.tables.specs.Table.{Ordered, member_of}
use Rattle.tables.proofs.Laws.{once_ordered, member_once, subset_length}
use Rattle.boosting.specs.Object.{State}
use Rattle.boosting.specs.Undo.{Entry, added, removed, pushed, taken}
use Rattle.boosting.specs.Store.{Transaction, closed_transaction, Store, valid, transaction, put}
use Rattle.boosting.specs.Room.{reserved_by, reserved_in, reserved, takes_by, takes_in}

-- ---- the keys that logs name

-- an add or remove entry of the key x stands in the log
unfoldable pub named : ℕ → List Entry → Bool
named x [] = false
named x (added k ∷ log) = eqb k x || named x log
named x (removed k ∷ log) = eqb k x || named x log
named x (pushed k ∷ log) = named x log
named x (taken k ∷ log) = named x log

unfoldable pub named_in : ℕ → List Transaction → Bool
named_in x [] = false
named_in x (t ∷ ts) = named x t.log || named_in x ts

member_by : (x : ℕ) (log : List Entry) (l : List ℕ) → member_of x (reserved_by log l) ≡ (named x log || member_of x l)
unfolding reserved_by named
member_by x [] l = refl
member_by x (n ∷ log) l = grind (arith, member_by x log l, member_once)

member_in : (x : ℕ) (ts : List Transaction) (l : List ℕ)
    → member_of x (reserved_in ts l) ≡ (named_in x ts || member_of x l)
unfolding reserved_in named_in
member_in x [] l = refl
member_in x (t ∷ ts) l = grind (arith, member_by x t.log (reserved_in ts l), member_in x ts l)

by_ordered : (log : List Entry) (l : List ℕ) → Ordered 1 l → Ordered 1 (reserved_by log l)
unfolding reserved_by
by_ordered [] l o = o
by_ordered (n ∷ log) l o = grind (arith, once_ordered, by_ordered log l o)

pub in_ordered : (ts : List Transaction) (l : List ℕ) → Ordered 1 l → Ordered 1 (reserved_in ts l)
unfolding reserved_in
in_ordered [] l o = o
in_ordered (t ∷ ts) l o = by_ordered t.log (reserved_in ts l) (in_ordered ts l o)

-- ---- one transaction put anew

named_set : (x : ℕ) (ts : List Transaction) (i : ℕ) (t : Transaction) → named_in x (set ts i t) ≡ true
    → (named x t.log ≡ true) ⊎ (named_in x ts ≡ true)
unfolding named_in
named_set x [] i t h = inr h
named_set x (u ∷ ts) zero t h = grind arith
named_set x (u ∷ ts) (suc i) t h = grind (arith, named_set x ts i t)

named_at : (x : ℕ) (ts : List Transaction) (i : ℕ) → named x (get_or ts i closed_transaction).log ≡ true
    → named_in x ts ≡ true
unfolding named named_in closed_transaction
named_at x [] i h = h
named_at x (t ∷ ts) zero h = grind arith
named_at x (t ∷ ts) (suc i) h = grind (arith, named_at x ts i h)

takes_set : (ts : List Transaction) (i : ℕ) (t : Transaction) → i < length ts
    → takes_in (set ts i t) + takes_by (get_or ts i closed_transaction).log ≡ takes_in ts + takes_by t.log
unfolding takes_in
takes_set [] i t h = absurd (omega arith)
takes_set (u ∷ ts) zero t h = omega arith
takes_set (u ∷ ts) (suc i) t h = omega (arith, takes_set ts i t (omega arith))

-- ---- the same of a store

-- what is in the script, and what a log names, has a slot
pub script-reserved : (d : Store) (x : ℕ) → member_of x d.state.script ≡ true → member_of x (reserved d) ≡ true
script-reserved d x h = grind (arith, member_in)

pub named-reserved : (d : Store) (e x : ℕ) → named x (transaction d e).log ≡ true → member_of x (reserved d) ≡ true
unfolding transaction closed_transaction named
named-reserved d zero x h = cc
named-reserved d (suc i) x h = grind (arith, member_in, named_at x d.transactions i)

-- where the new script, the new log's keys and all slots so far lie in p, there are no more slots than p has keys
pub slots_put : (d : Store) (s : State) (e : ℕ) (t : Transaction) (p : List ℕ) → Ordered 1 s.script
    → ((x : ℕ) → member_of x s.script ≡ true → member_of x p ≡ true)
    → ((x : ℕ) → named x t.log ≡ true → member_of x p ≡ true)
    → ((x : ℕ) → member_of x (reserved d) ≡ true → member_of x p ≡ true)
    → length (reserved (put d s e t)) ≤ length p
unfolding put
slots_put d s e t p o f g k =
    subset_length (reserved (put d s e t)) p (in_ordered (put d s e t).transactions s.script o) (λ x h. in_p x e h)
  where
    in_p : (x e : ℕ) → member_of x (reserved (put d s e t)) ≡ true → member_of x p ≡ true
    in_p x zero h = grind (arith, member_in, f x, k x)
    in_p x (suc i) h = grind (arith, member_in, f x, g x, k x, named_set x d.transactions i t)

pub takes_put : (d : Store) (s : State) (e : ℕ) (t : Transaction) → valid e ≡ true → length d.transactions ≡ 8
    → takes_in (put d s e t).transactions + takes_by (transaction d e).log
    ≡ takes_in d.transactions + takes_by t.log
unfolding put transaction
takes_put d s zero t h l = cc
takes_put d s (suc i) t h l = takes_set d.transactions i t (grind arith)
