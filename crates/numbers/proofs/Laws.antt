-- Laws of `value_from` and of the tests of `number_of`. Assumes nothing.
use mathlib.Core.Path.{◌≡◌, refl}
use mathlib.Core.Bool.{Bool, true, false, cond}
use mathlib.Core.List.{List, [], ◌∷◌}
use Prim.Native.Nat.{ℕ, ◌+◌, ◌*◌, ◌-◌, ◌^◌, ◌≤◌, ◌<◌}
use native.Mathlib.Nat.{pow-suc, pow-le-pow_right}
use native.Mathlib.Numerals.{add-one}
use native.Mathlib.Omega.{arith}
use lib.Dec.{eqb, lit<}
use lib.ListN.{length, get_or}
use borrow.Author.Tests.{lt-ltb, le-ltb, eq-eqb, ne_eqb, eqb-true, eqb-false}
use Rattle.std.specs.Prelude.{Option, Some, None}
use Rattle.numbers.specs.Number.{value_from, number_of}

-- ---- powers of ten
pub ten_more : (i : ℕ) → 10 ^ (i + 1) ≡ 10 ^ i * 10
ten_more i = rw add-one (pow-suc 10 i)

pub ten_le : (i j : ℕ) → i ≤ j → 10 ^ i ≤ 10 ^ j
ten_le i j h = pow-le-pow_right {n = 10} (lit< tt) h

-- ---- a byte more of a number
pub value_more : (b : ℕ) (bs : List ℕ) (n : ℕ) → 48 ≤ b → b ≤ 57
    → value_from n (b ∷ bs) ≡ value_from (n * 10 + (b - 48)) bs
unfolding value_from
value_more b bs n l g = simp (le-ltb _ _ l, le-ltb _ _ g)

pub value_end : (s : List ℕ) (n : ℕ) → s ≡ [] → value_from n s ≡ Some n
unfolding value_from
value_end s n e = rw e

-- ---- the tests of `number_of`
pub number_good : (s : List ℕ) → 0 < length s → length s ≤ 9 → ((length s ≡ 1 → ⊥) → get_or s 0 0 ≡ 48 → ⊥)
    → number_of s ≡ value_from 0 s
unfolding number_of
number_good s h l f =
    simp (ne_eqb (length s) 0 (λ e. omega arith), le-ltb 9 (length s) l)
    (last (eqb (length s) 1) (eqb (get_or s 0 0) 48) refl refl)
  where
    last : (p q : Bool) → eqb (length s) 1 ≡ p → eqb (get_or s 0 0) 48 ≡ q
        → cond p (value_from 0 s) (cond q None (value_from 0 s)) ≡ value_from 0 s
    last true q ep eq = refl
    last false false ep eq = refl
    last false true ep eq = absurd (f (eqb-false _ _ ep) (eqb-true _ _ eq))

pub number_empty : (s : List ℕ) → length s ≡ 0 → number_of s ≡ None
unfolding number_of
number_empty s e = simp (eq-eqb _ _ e)

pub number_long : (s : List ℕ) → 9 < length s → number_of s ≡ None
unfolding number_of
number_long s h = simp (ne_eqb (length s) 0 (λ e. omega arith), lt-ltb _ _ h)

same : (t : Bool) (x : Option ℕ) → cond t x x ≡ x
same true x = refl
same false x = refl

pub number_zero : (s : List ℕ) → (length s ≡ 1 → ⊥) → get_or s 0 0 ≡ 48 → number_of s ≡ None
unfolding number_of
number_zero s h e = simp (ne_eqb _ _ h, eq-eqb _ _ e, same)

pub number_bad : (s : List ℕ) → value_from 0 s ≡ None → number_of s ≡ None
unfolding number_of
number_bad s e = simp (e, same)
