-- Laws of the sorted lists of specs/Table. Assumes nothing.
use mathlib.Core.Path.{◌≡◌, refl}
use mathlib.Core.Bool.{Bool, true, false, ◌||◌}
use mathlib.Core.List.{List, [], ◌∷◌, ◌++◌}
use Prim.Native.Nat.{ℕ, zero, suc, ◌+◌, ◌≤◌, ◌<◌}
use native.Mathlib.Omega.{arith}
use borrow.Author.Tests.{ltb-true, ne_eqb}
use lib.Dec.{ltb, eqb}
use lib.ListN.{length, take, drop}
use Rattle.tables.specs.Table.{From, Ordered, rank_of, member_of, insert_of, delete_of, put_once_of}

-- a Bool is taken apart, with the equation at hand
pub split {ℓ} : {P : Type ℓ} (b : Bool) → (b ≡ true → P) → (b ≡ false → P) → P
split true f g = f refl
split false f g = g refl

-- what is above k is not k
pub From-none : (k b : ℕ) (l : List ℕ) → From b l → k < b → member_of k l ≡ false
unfolding member_of
From-none k b [] f h = refl
From-none k b (x ∷ l) f h = grind (arith, From-none k b l f.1 h)

-- not below and not equal is above, as a tail's bound `From (x + 0)` says it
pub le_to_lt : (x k : ℕ) → k ≤ x → (x ≡ k → ⊥) → k < x + 0
le_to_lt x k a b = omega arith

pub member_end : (k : ℕ) (l : List ℕ) → length l ≤ rank_of k l → member_of k l ≡ false
unfolding rank_of member_of
member_end k [] h = refl
member_end k (x ∷ l) h = grind (arith, member_end k l)

pub insert_split : (k : ℕ) (l : List ℕ) → insert_of k l ≡ take (rank_of k l) l ++ k ∷ drop (rank_of k l) l
unfolding rank_of insert_of
insert_split k [] = refl
insert_split k (x ∷ l) = grind (arith, insert_split k l)

pub member_below : (k : ℕ) (l : List ℕ) → Ordered 0 l → member_of k l ≡ true → rank_of k l < length l
member_below k l o m = grind (arith, member_end k l)

pub delete_split : (k : ℕ) (l : List ℕ) → Ordered 0 l → member_of k l ≡ true
    → delete_of k l ≡ take (rank_of k l) l ++ drop (suc (rank_of k l)) l
unfolding rank_of member_of delete_of
delete_split k [] o m = refl
delete_split k (x ∷ l) o m =
    split (ltb x k)
    (λ e.
    let n : eqb x k ≡ false = ne_eqb x k (λ q. omega (arith, ltb-true x k e)) in
    rw (e, n) (cc (delete_split k l o.1 (rw n at m))))
    (λ e. rw e (grind (arith, From-none k (x + 0) l o.0)))

pub From-weaken : (a b : ℕ) (l : List ℕ) → a ≤ b → From b l → From a l
From-weaken a b [] h f = tt
From-weaken a b (x ∷ l) h f = (omega (arith, f.0), From-weaken a b l h f.1)

pub Ordered-weaken : (d : ℕ) (l : List ℕ) → Ordered d l → Ordered 0 l
Ordered-weaken d [] o = tt
Ordered-weaken d (x ∷ l) o = (From-weaken (x + 0) (x + d) l (omega arith) o.0, Ordered-weaken d l o.1)

-- no element from k on is closer to k than d
abbrev pub Apart : ℕ → ℕ → List ℕ → Type 0
Apart d k [] = Unit {0}
Apart d k (x ∷ l) = (k ≤ x → k + d ≤ x) × Apart d k l

pub Apart-zero : (k : ℕ) (l : List ℕ) → Apart 0 k l
Apart-zero k [] = tt
Apart-zero k (x ∷ l) = ((λ h. omega arith), Apart-zero k l)

pub Apart-new : (k : ℕ) (l : List ℕ) → member_of k l ≡ false → Apart 1 k l
unfolding member_of
Apart-new k [] m = tt
Apart-new k (x ∷ l) m = grind (arith, Apart-new k l)

insert_from : (b k : ℕ) (l : List ℕ) → b ≤ k → From b l → From b (insert_of k l)
unfolding insert_of
insert_from b k [] h f = (h, tt)
insert_from b k (x ∷ l) h f = grind (arith, insert_from b k l h f.1)

pub insert_ordered : (d k : ℕ) (l : List ℕ) → d ≤ 1 → Apart d k l → Ordered d l → Ordered d (insert_of k l)
unfolding insert_of
insert_ordered d k [] h a o = (tt, tt)
insert_ordered d k (x ∷ l) h a o =
    grind (arith, insert_from (x + d) k l, insert_ordered d k l h a.1 o.1, From-weaken (k + d) (x + d) l)

delete_from : (b k : ℕ) (l : List ℕ) → From b l → From b (delete_of k l)
unfolding delete_of
delete_from b k [] f = tt
delete_from b k (x ∷ l) f = grind (arith, delete_from b k l f.1)

pub delete_ordered : (d k : ℕ) (l : List ℕ) → Ordered d l → Ordered d (delete_of k l)
unfolding delete_of
delete_ordered d k [] o = tt
delete_ordered d k (x ∷ l) o = grind (arith, delete_from (x + d) k l o.0, delete_ordered d k l o.1)

pub length_insert : (k : ℕ) (l : List ℕ) → length (insert_of k l) ≡ suc (length l)
unfolding insert_of
length_insert k [] = refl
length_insert k (x ∷ l) = grind (arith, length_insert k l)

pub length_delete : (k : ℕ) (l : List ℕ) → member_of k l ≡ true → suc (length (delete_of k l)) ≡ length l
unfolding member_of delete_of
length_delete k [] m = cc
length_delete k (x ∷ l) m = grind (arith, length_delete k l)

pub once_ordered : (k : ℕ) (l : List ℕ) → Ordered 1 l → Ordered 1 (put_once_of k l)
unfolding put_once_of
once_ordered k l o = grind (arith, insert_ordered 1 k l, Apart-new k l)

pub length_once : (k : ℕ) (l : List ℕ) → length (put_once_of k l) ≤ length l + 1
unfolding put_once_of
length_once k l = grind (arith, length_insert k l)

-- what is a member after an insertion, of what it was before
pub member_insert : (x k : ℕ) (l : List ℕ) → member_of x (insert_of k l) ≡ (eqb k x || member_of x l)
unfolding member_of insert_of
member_insert x k [] = refl
member_insert x k (y ∷ l) = grind (arith, member_insert x k l)

pub member_once : (x k : ℕ) (l : List ℕ) → member_of x (put_once_of k l) ≡ (eqb k x || member_of x l)
unfolding put_once_of
member_once x k l = grind (arith, member_insert x k l)

pub member_delete_other : (x k : ℕ) (l : List ℕ) → (x ≡ k → ⊥) → member_of x (delete_of k l) ≡ member_of x l
unfolding member_of delete_of
member_delete_other x k [] n = refl
member_delete_other x k (y ∷ l) n = grind (arith, member_delete_other x k l n)

pub member_from : (b x : ℕ) (l : List ℕ) → From b l → member_of x l ≡ true → b ≤ x
member_from b x l f m = grind (arith, From-none x b l f)

-- a rising list whose elements all stand in another is no longer
pub subset_length : (l m : List ℕ) → Ordered 1 l → ((x : ℕ) → member_of x l ≡ true → member_of x m ≡ true)
    → length l ≤ length m
unfolding member_of
subset_length [] m o s = omega arith
subset_length (x ∷ l) m o s =
    let rest : (y : ℕ) → member_of y l ≡ true → member_of y (delete_of x m) ≡ true =
    λ y h. grind (arith, member_delete_other y x m, member_from (x + 1) y l o.0, s y) in
    grind (arith, subset_length l (delete_of x m) o.1 rest, length_delete x m, s x)

pub delete_absent : (k : ℕ) (l : List ℕ) → member_of k l ≡ false → delete_of k l ≡ l
unfolding member_of delete_of
delete_absent k [] m = refl
delete_absent k (x ∷ l) m = grind (arith, delete_absent k l)

-- where something is a member there is one
pub member_count : (k : ℕ) (a : List ℕ) (n : ℕ) → member_of k (take n a) ≡ true → 1 ≤ n
unfolding member_of
member_count k a zero m = absurd (mathlib.Core.Bool.false≢true m)
member_count k a (suc n) m = omega arith

-- two rising lists with the same members are the same list
pub ext_rising : (l m : List ℕ) → Ordered 1 l → Ordered 1 m → ((x : ℕ) → member_of x l ≡ member_of x m) → l ≡ m
unfolding member_of
ext_rising [] [] o p f = refl
ext_rising [] (y ∷ m) o p f = grind (arith, f y)
ext_rising (x ∷ l) [] o p f = grind (arith, f x)
ext_rising (x ∷ l) (y ∷ m) o p f =
    let e : x ≡ y = grind (arith, f x, f y, member_from (x + 1) y l o.0, member_from (y + 1) x m p.0) in
    let t : (z : ℕ) → member_of z l ≡ member_of z m =
    λ z. grind (arith, f z, From-none z (x + 1) l o.0, From-none z (y + 1) m p.0) in
    cc (ext_rising l m o.1 p.1 t)
