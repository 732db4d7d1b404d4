-- Laws of the digits of a number: which they are, how many, and which comes first. Assumes nothing.
use mathlib.Core.Path.{◌≡◌, sym, ap, ◌∙◌}
use mathlib.Core.Bool.{Bool, true, false, cond}
use mathlib.Core.List.{List, [], ◌∷◌, ◌++◌}
use mathlib.Core.Logic.{⊎_elim}
use Prim.Native.Nat.{ℕ, zero, suc, ◌+◌, ◌/◌, ◌%◌, ◌^◌, ◌≤◌, ◌<◌}
use native.Mathlib.Nat.{pow-suc, mod-eq_of_lt}
use native.Mathlib.Omega.{arith}
use lib.Dec.{ltb}
use lib.ListN.{length, get_or, length-append, get_or-append}
use borrow.Author.Tests.{lt-ltb, le-ltb}
use Rattle.lines.specs.Lines.{up_to}
use Rattle.std.proofs.lemmas.Bool.{cases_lt}
use Rattle.lines.proofs.Laws.{none_one, none_append}
use Rattle.digits.specs.Digits.{digits_at, digits_of}

-- each law takes the code's tests as premises
pub digits_small : (k n : ℕ) → n < 10 → digits_at k n ≡ (48 + n) ∷ []
unfolding digits_at
digits_small zero n h = rw (mod-eq_of_lt h)
digits_small (suc k) n h = simp (lt-ltb n 10 h)

pub digits_step : (k n : ℕ) → 10 ≤ n → digits_at (suc k) n ≡ digits_at k (n / 10) ++ ((48 + n % 10) ∷ [])
unfolding digits_at
digits_step k n h = simp (le-ltb n 10 h)

pub digits_pos : (k n : ℕ) → 0 < length (digits_at k n)
unfolding digits_at
digits_pos zero n = omega arith
digits_pos (suc k) n = pos (ltb n 10) (digits_at k (n / 10))
  where
    pos : (t : Bool) (l : List ℕ) → 0 < length (cond t ((48 + n) ∷ []) (l ++ ((48 + n % 10) ∷ [])))
    pos true l = omega arith
    pos false l = omega (arith, length-append l ((48 + n % 10) ∷ []))

-- digits hold no byte below 48
digit_one : (sep d : ℕ) → sep < 48 → up_to sep ((48 + d) ∷ []) ≡ 1
digit_one sep d h = none_one sep (48 + d) (λ e. omega arith)

pub none_digits : (sep k n : ℕ) → sep < 48 → up_to sep (digits_at k n) ≡ length (digits_at k n)
unfolding digits_at
none_digits sep zero n h = digit_one sep (n % 10) h
none_digits sep (suc k) n h = by_test (ltb n 10) (none_digits sep k (n / 10) h)
  where
    by_test : (t : Bool) → up_to sep (digits_at k (n / 10)) ≡ length (digits_at k (n / 10))
        → up_to sep (cond t ((48 + n) ∷ []) (digits_at k (n / 10) ++ ((48 + n % 10) ∷ [])))
        ≡ length (cond t ((48 + n) ∷ []) (digits_at k (n / 10) ++ ((48 + n % 10) ∷ [])))
    by_test true e = digit_one sep n h
    by_test false e = none_append sep (digits_at k (n / 10)) ((48 + n % 10) ∷ []) e (digit_one sep (n % 10) h)

-- the length of one digit more
longer : (k n : ℕ) → 10 ≤ n → length (digits_at (suc k) n) ≡ length (digits_at k (n / 10)) + 1
longer k n l = ap length (digits_step k n l) ∙ length-append (digits_at k (n / 10)) ((48 + n % 10) ∷ [])

-- there is room for at most so many
pub digits_bounded : (k n : ℕ) → length (digits_at k n) ≤ suc k
unfolding digits_at
digits_bounded zero n = omega arith
digits_bounded (suc k) n =
    ⊎_elim
    (λ l. omega (arith, ap length (digits_small (suc k) n l)))
    (λ l. omega (arith, longer k n l, digits_bounded k (n / 10)))
    (cases_lt n 10)

-- a number below a power of ten has no more digits than that
pub digits_at_most : (j k n : ℕ) → n < 10 ^ suc j → length (digits_at k n) ≤ suc j
digits_at_most zero k n h = omega (arith, ap length (digits_small k n h))
digits_at_most (suc j) zero n h = omega (arith, digits_bounded 0 n)
digits_at_most (suc j) (suc k) n h =
    ⊎_elim
    (λ l. omega (arith, ap length (digits_small (suc k) n l)))
    (λ l.
    let p = pow-suc 10 (suc j) in
    omega (arith, longer k n l, digits_at_most j k (n / 10) (omega arith)))
    (cases_lt n 10)

-- a leading 0 is that of 0
pub digits_lead : (k n : ℕ) → n < 10 ^ suc k → get_or (digits_at k n) 0 0 ≡ 48 → n ≡ 0
unfolding digits_at
digits_lead zero n h e = omega arith
digits_lead (suc k) n h e =
    ⊎_elim
    (λ l. let f = simp (lt-ltb n 10 l) at e in omega arith)
    (λ l.
    let p = pow-suc 10 (suc k) in
    let q : n / 10 < 10 ^ suc k = omega arith in
    let f = simp (le-ltb n 10 l) at e in
    let a = get_or-append (digits_at k (n / 10)) ((48 + n % 10) ∷ []) 0 0 (digits_pos k (n / 10)) in
    let z : n / 10 ≡ 0 = digits_lead k (n / 10) q (sym a ∙ f) in
    omega arith)
    (cases_lt n 10)

-- and 0 is one digit
pub zero_one : (n : ℕ) → n ≡ 0 → length (digits_of n) ≡ 1
unfolding digits_at
zero_one n e = rw e
