-- Writing a number and then reading it gives the number back, and reading accepts only what writing writes.
-- Assumes nothing.
use mathlib.Core.Path.{◌≡◌, refl, sym, ap, ◌∙◌}
use mathlib.Core.Bool.{Bool, true, false, cond}
use mathlib.Core.List.{List, [], ◌∷◌, ◌++◌}
use mathlib.Core.Logic.{⊎_elim}
use Prim.Native.Nat.{ℕ, zero, suc, ◌+◌, ◌*◌, ◌-◌, ◌/◌, ◌%◌, ◌^◌, ◌≤◌, ◌<◌}
use native.Mathlib.Nat.{pow-suc}
use native.Mathlib.Omega.{arith}
use lib.Dec.{ltb, eqb}
use lib.ListN.{length, get_or, take}
use lib.Seq.{take-suc, take_all, length-take-le, get_or-take}
use borrow.Author.Tests.{lt-ltb, le-ltb, ltb-false, eqb-true, eqb-false}
use Rattle.std.proofs.lemmas.Bool.{cases_lt}
use Rattle.digits.specs.Digits.{digits_at, digits_of}
use Rattle.digits.proofs.Laws.{digits_pos, digits_step, digits_small, digits_at_most, digits_lead, zero_one}
use Rattle.std.specs.Prelude.{Option, Some, None}
use Rattle.numbers.specs.Number.{value_from, number_of}
use Rattle.numbers.specs.Theorems.{WriteThenRead, EveryNumber, ReadIsCanonical}
use Rattle.numbers.proofs.Laws.{ten_le, number_good}

-- digits behind a number, or behind none
abbrev and_then : Option ℕ → List ℕ → Option ℕ
and_then (Some m) t = value_from m t
and_then None t = None

append_cond : (p q : Bool) (x : Option ℕ) (t : List ℕ)
    → cond p None (cond q None (and_then x t)) ≡ and_then (cond p None (cond q None x)) t
append_cond true q x t = refl
append_cond false true x t = refl
append_cond false false x t = refl

num_append : (s t : List ℕ) (n : ℕ) → value_from n (s ++ t) ≡ and_then (value_from n s) t
unfolding value_from
num_append [] t n = refl
num_append (b ∷ s) t n =
    ap (λ (x : Option ℕ). cond (ltb b 48) None (cond (ltb 57 b) None x)) (num_append s t (n * 10 + (b - 48)))
    ∙ append_cond (ltb b 48) (ltb 57 b) (value_from (n * 10 + (b - 48)) s) t

num_one : (n d : ℕ) → d < 10 → value_from n ((48 + d) ∷ []) ≡ Some (n * 10 + d)
unfolding value_from
num_one n d h =
    let l : ltb (48 + d) 48 ≡ false = le-ltb (48 + d) 48 (omega arith) in
    let g : ltb 57 (48 + d) ≡ false = le-ltb 57 (48 + d) (omega arith) in
    let e : 48 + d - 48 ≡ d = omega arith in
    simp (l, g, e)

value_at : (k n : ℕ) → n < 10 ^ suc k → value_from 0 (digits_at k n) ≡ Some n
unfolding digits_at
value_at zero n h =
    let e : 0 * 10 + n % 10 ≡ n = omega arith in
    num_one 0 (n % 10) (omega arith) ∙ ap Some e
value_at (suc k) n h =
    ⊎_elim
    (λ l.
    let e : 0 * 10 + n ≡ n = omega arith in
    simp (lt-ltb n 10 l) (num_one 0 n l ∙ ap Some e))
    (λ l.
    let p = pow-suc 10 (suc k) in
    let q : n / 10 < 10 ^ suc k = omega arith in
    let e : n / 10 * 10 + n % 10 ≡ n = omega arith in
    let d : n % 10 < 10 = omega arith in
    rw (digits_step k n l)
    (num_append (digits_at k (n / 10)) ((48 + n % 10) ∷ []) 0
    ∙ (ap (λ (x : Option ℕ). and_then x ((48 + n % 10) ∷ [])) (value_at k (n / 10) q)
    ∙ (num_one (n / 10) (n % 10) d ∙ ap Some e))))
    (cases_lt n 10)

-- ---- one way: what is written is read
pub write_then_read : WriteThenRead
write_then_read n h =
    number_good (digits_of n) (digits_pos 19 n) (digits_at_most 8 19 n h)
    (λ one lead. one (zero_one n (digits_lead 19 n (omega arith) lead)))
    ∙ value_at 19 n (omega arith)

pub every_number : EveryNumber
every_number n h = value_at 19 n (omega arith)

-- ---- the other way: what `number_of` accepts is what printing writes

-- a value from one digit more
num_snoc : (s : List ℕ) (b n : ℕ) → value_from 0 (s ++ (b ∷ [])) ≡ Some n
    → (q : ℕ) × (value_from 0 s ≡ Some q) × (48 ≤ b) × (b ≤ 57) × (n ≡ q * 10 + (b - 48))
unfolding value_from
num_snoc s b n e = behind (value_from 0 s) refl
  where
    one : (q : ℕ) → value_from 0 s ≡ Some q → (x y : Bool) → ltb b 48 ≡ x → ltb 57 b ≡ y
        → cond x None (cond y None (Some (q * 10 + (b - 48)))) ≡ Some n
        → (q : ℕ) × (value_from 0 s ≡ Some q) × (48 ≤ b) × (b ≤ 57) × (n ≡ q * 10 + (b - 48))
    one q f true y ex ey g = let z : ◌≡◌ {A = ℕ} 0 1 = cc in absurd (omega arith)
    one q f false true ex ey g = let z : ◌≡◌ {A = ℕ} 0 1 = cc in absurd (omega arith)
    one q f false false ex ey g = (q, f, ltb-false b 48 ex, ltb-false 57 b ey, (cc))

    behind : (x : Option ℕ) → value_from 0 s ≡ x
        → (q : ℕ) × (value_from 0 s ≡ Some q) × (48 ≤ b) × (b ≤ 57) × (n ≡ q * 10 + (b - 48))
    behind (Some q) f =
        one q f (ltb b 48) (ltb 57 b) refl refl
        (ap (λ (x : Option ℕ). and_then x (b ∷ [])) (sym f) ∙ (sym (num_append s (b ∷ []) 0) ∙ e))
    behind None f =
        let g : None ≡ Some n =
        ap (λ (x : Option ℕ). and_then x (b ∷ [])) (sym f) ∙ (sym (num_append s (b ∷ []) 0) ∙ e) in
        let z : ◌≡◌ {A = ℕ} 0 1 = cc in
        absurd (omega arith)

snoc : (s : List ℕ) (m : ℕ) → length s ≡ suc m → s ≡ take m s ++ (get_or s m 0 ∷ [])
snoc s m e = sym (take_all (suc m) s (omega arith)) ∙ take-suc s m 0 (omega arith)

-- one digit alone
one_digit : (s : List ℕ) (n : ℕ) → length s ≡ 1 → value_from 0 s ≡ Some n
    → (s ≡ (48 + n) ∷ []) × (n < 10) × (get_or s 0 0 ≡ 48 + n)
unfolding value_from
one_digit s n e f =
    let b = get_or s 0 0 in
    let t : s ≡ b ∷ [] = snoc s 0 e in
    let g = num_snoc [] b n (ap (value_from 0) (sym t) ∙ f) in
    let z : ◌≡◌ {A = ℕ} 0 g.0 = cc g.1 in
    let h : b ≡ 48 + n = omega (arith, g.2, g.3, g.4) in
    (t ∙ ap (λ (x : ℕ). x ∷ []) h, omega (arith, g.2, g.3, g.4), h)

-- digits that do not begin with 0 stand for a positive number
positive : (m : ℕ) (s : List ℕ) (n : ℕ) → length s ≡ suc m → (get_or s 0 0 ≡ 48 → ⊥) → value_from 0 s ≡ Some n → 0 < n
positive zero s n e h f =
    let o = one_digit s n e f in
    ⊎_elim (λ l. l) (λ l. absurd (h (let u : get_or s 0 0 ≡ 48 = omega (arith, o.2) in u))) (cases_lt 0 n)
positive (suc m) s n e h f =
    let p = take (suc m) s in
    let b = get_or s (suc m) 0 in
    let t : s ≡ p ++ (b ∷ []) = snoc s (suc m) e in
    let g = num_snoc p b n (ap (value_from 0) (sym t) ∙ f) in
    let lp : length p ≡ suc m = length-take-le (suc m) s (omega arith) in
    let hp : get_or p 0 0 ≡ get_or s 0 0 = get_or-take (suc m) s 0 0 (omega arith) in
    let r = positive m p g.0 lp (λ u. h (sym hp ∙ u)) g.1 in
    omega (arith, g.4)

canonical : (m k : ℕ) (s : List ℕ) (n : ℕ) → length s ≡ suc m → m ≤ k → ((m ≡ 0 → ⊥) → get_or s 0 0 ≡ 48 → ⊥)
    → value_from 0 s ≡ Some n → (s ≡ digits_at k n) × (n < 10 ^ suc m)
canonical zero k s n e h u f =
    let o = one_digit s n e f in
    (o.0 ∙ sym (digits_small k n o.1), o.1)
canonical (suc m) zero s n e h u f = absurd (omega arith)
canonical (suc m) (suc k) s n e h u f =
    let p = take (suc m) s in
    let b = get_or s (suc m) 0 in
    let t : s ≡ p ++ (b ∷ []) = snoc s (suc m) e in
    let lp : length p ≡ suc m = length-take-le (suc m) s (omega arith) in
    let hp : get_or p 0 0 ≡ get_or s 0 0 = get_or-take (suc m) s 0 0 (omega arith) in
    let g = num_snoc p b n (ap (value_from 0) (sym t) ∙ f) in
    let q = g.0 in
    let v : get_or p 0 0 ≡ 48 → ⊥ = λ w. u (λ z. omega arith) (sym hp ∙ w) in
    let r = canonical m k p q lp (omega arith) (λ _ w. v w) g.1 in
    let c = positive m p q lp v g.1 in
    let w = pow-suc 10 (suc m) in
    let l : 10 ≤ n = omega (arith, g.4) in
    let d : n / 10 ≡ q = omega (arith, g.2, g.3, g.4) in
    let y : 48 + n % 10 ≡ b = omega (arith, g.2, g.3, g.4) in
    let last : digits_at k (n / 10) ++ ((48 + n % 10) ∷ []) ≡ digits_at k q ++ (b ∷ []) =
    ap (λ (x : ℕ). digits_at k x ++ ((48 + n % 10) ∷ [])) d ∙ ap (λ (x : ℕ). digits_at k q ++ (x ∷ [])) y in (
      t ∙ (ap (λ (x : List ℕ). x ++ (b ∷ [])) r.0 ∙ sym (digits_step k n l ∙ last)),
      omega (arith, g.2, g.3, g.4, r.1),
    )

test_pos : (s : List ℕ) → eqb (length s) 0 ≡ false → 0 < length s
test_pos s x = ⊎_elim (λ l. l) (λ l. absurd (eqb-false (length s) 0 x (omega arith))) (cases_lt 0 (length s))

-- which tests of `number_of` a value has passed
passed : (s : List ℕ) (n : ℕ) → number_of s ≡ Some n
    → (0 < length s) × (length s ≤ 9) × ((length s ≡ 1 → ⊥) → get_or s 0 0 ≡ 48 → ⊥) × (value_from 0 s ≡ Some n)
unfolding number_of
passed s n f =
    by_tests (eqb (length s) 0) (ltb 9 (length s)) (eqb (length s) 1) (eqb (get_or s 0 0) 48) refl refl refl refl f
  where
    by_tests : (a b c d : Bool) → eqb (length s) 0 ≡ a → ltb 9 (length s) ≡ b → eqb (length s) 1 ≡ c
        → eqb (get_or s 0 0) 48 ≡ d
        → cond a None (cond b None (cond c (value_from 0 s) (cond d None (value_from 0 s)))) ≡ Some n
        → (0 < length s) × (length s ≤ 9) × ((length s ≡ 1 → ⊥) → get_or s 0 0 ≡ 48 → ⊥) × (value_from 0 s ≡ Some n)
    by_tests true b c d ea eb ec ed g = let z : ◌≡◌ {A = ℕ} 0 1 = cc in absurd (omega arith)
    by_tests false true c d ea eb ec ed g = let z : ◌≡◌ {A = ℕ} 0 1 = cc in absurd (omega arith)
    by_tests false false true d ea eb ec ed g =
        (test_pos s ea, ltb-false _ _ eb, (λ o. absurd (o (eqb-true _ _ ec))), g)
    by_tests false false false true ea eb ec ed g = let z : ◌≡◌ {A = ℕ} 0 1 = cc in absurd (omega arith)
    by_tests false false false false ea eb ec ed g = (test_pos s ea, ltb-false _ _ eb, (λ _ h. eqb-false _ _ ed h), g)

pub read_is_canonical : ReadIsCanonical
read_is_canonical s n f =
    let p = passed s n f in
    let m = length s - 1 in
    let e : length s ≡ suc m = omega (arith, p.0) in
    let lead : (m ≡ 0 → ⊥) → get_or s 0 0 ≡ 48 → ⊥ =
    λ a b. p.2 (λ o. a (let z : length s - 1 ≡ 0 = omega arith in z)) b in
    let r = canonical m 19 s n e (omega (arith, p.1)) lead p.3 in
    let t : 10 ^ suc m ≤ 10 ^ 9 = ten_le (suc m) 9 (omega (arith, p.1)) in
    (r.0, omega (arith, r.1))
