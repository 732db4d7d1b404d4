-- Laws of insertion, deletion and membership that the crate `tables` does not need: which two of them change places,
-- and which take each other back. Assumes nothing.
use Prim.Native.Nat.{ℕ, ◌+◌}
use mathlib.Core.Path.{◌≡◌, refl}
use mathlib.Core.Bool.{true, false, ◌||◌}
use mathlib.Core.List.{List, [], ◌∷◌, ◌++◌}
use native.Mathlib.Omega.{arith}
use lib.Dec.{eqb}
use Rattle.tables.specs.Table.{From, Ordered, member_of, insert_of, delete_of, put_once_of}
use Rattle.tables.proofs.Laws.{From-none, From-weaken, Ordered-weaken, member_from, member_insert, member_once}
use Rattle.tables.proofs.Laws.{member_delete_other}

-- ---- changing places

pub insert_comm : (a b : ℕ) (l : List ℕ) → insert_of a (insert_of b l) ≡ insert_of b (insert_of a l)
unfolding insert_of
insert_comm a b [] = grind arith
insert_comm a b (x ∷ l) = grind (arith, insert_comm a b l)

pub delete_comm : (a b : ℕ) (l : List ℕ) → delete_of a (delete_of b l) ≡ delete_of b (delete_of a l)
unfolding delete_of
delete_comm a b [] = refl
delete_comm a b (x ∷ l) = grind (arith, delete_comm a b l)

pub insert_head : (x : ℕ) (l : List ℕ) → From x l → insert_of x l ≡ x ∷ l
unfolding insert_of
insert_head x [] h = refl
insert_head x (y ∷ l) h = grind arith

delete_insert_comm : (a b : ℕ) (l : List ℕ) → Ordered 0 l → (a ≡ b → ⊥)
    → delete_of a (insert_of b l) ≡ insert_of b (delete_of a l)
unfolding insert_of delete_of
delete_insert_comm a b [] s n = grind arith
delete_insert_comm a b (x ∷ l) s n =
    grind (arith, delete_insert_comm a b l s.1 n, insert_head b l, From-weaken b (x + 0) l, s.0)

pub member_once_other : (a b : ℕ) (x : List ℕ) → (a ≡ b → ⊥) → member_of a (put_once_of b x) ≡ member_of a x
member_once_other a b x n = grind (arith, member_once)

pub once_once : (a b : ℕ) (x : List ℕ) → (a ≡ b → ⊥)
    → put_once_of a (put_once_of b x) ≡ put_once_of b (put_once_of a x)
unfolding put_once_of
once_once a b x n = grind (arith, insert_comm, member_insert)

pub once_delete : (a b : ℕ) (x : List ℕ) → Ordered 1 x → (a ≡ b → ⊥)
    → put_once_of a (delete_of b x) ≡ delete_of b (put_once_of a x)
unfolding put_once_of
once_delete a b x s n =
    grind (arith, delete_insert_comm b a x (Ordered-weaken 1 x s), member_delete_other a b x n)

-- ---- taking back

pub delete_insert : (a : ℕ) (l : List ℕ) → delete_of a (insert_of a l) ≡ l
unfolding insert_of delete_of
delete_insert a [] = grind arith
delete_insert a (x ∷ l) = grind (arith, delete_insert a l)

-- a key stands once in a strictly rising list
pub member_delete_self : (a : ℕ) (l : List ℕ) → Ordered 1 l → member_of a (delete_of a l) ≡ false
unfolding member_of delete_of
member_delete_self a [] s = refl
member_delete_self a (x ∷ l) s = grind (arith, member_delete_self a l s.1, From-none a (x + 1) l s.0)

pub insert_delete : (a : ℕ) (l : List ℕ) → Ordered 1 l → member_of a l ≡ true → insert_of a (delete_of a l) ≡ l
unfolding member_of delete_of insert_of
insert_delete a [] s m = cc
insert_delete a (x ∷ l) s m =
    grind (arith, insert_delete a l s.1, insert_head a l, From-weaken a (x + 1) l, member_from (x + 1) a l s.0)

-- ---- a list with one more at its end, as the locks on cues are kept

pub member_end : (j k : ℕ) (x : List ℕ) → member_of j (x ++ (k ∷ [])) ≡ (member_of j x || eqb k j)
unfolding member_of
member_end j k [] = grind arith
member_end j k (y ∷ x) = grind (arith, member_end j k x)
