-- The digits of a number of 64 bits are what std writes for it. Assumes nothing.
use Rattle.std.proofs.Common.{◌≡◌, ℕ, zero, suc, ◌+◌, ◌/◌, ◌%◌, ◌^◌, ◌<◌, ◌∷◌, [], ◌++◌, ◌≤◌, length}
use Rattle.std.proofs.Common.{decimal, arith, sym, ap, ◌∙◌}
use mathlib.Core.Logic.{⊎_elim}
use native.Mathlib.Nat.{pow-suc}
use Rattle.std.proofs.lemmas.Fmt.{decimal_digit, decimal_step}
use Rattle.std.proofs.lemmas.Bool.{cases_lt}
use Rattle.digits.specs.Digits.{digits_at, digits_of}
use Rattle.digits.proofs.Laws.{digits_bounded, digits_small, digits_step}

decimal_at : (k n : ℕ) → n < 10 ^ suc k → n < 2 ^ 64 → decimal n ≡ digits_at k n
decimal_at zero n h w = decimal_digit n (omega arith) ∙ sym (digits_small zero n (omega arith))
decimal_at (suc k) n h w =
    ⊎_elim
    (λ l. decimal_digit n l ∙ sym (digits_small (suc k) n l))
    (λ l.
    let p = pow-suc 10 (suc k) in
    let r = decimal_at k (n / 10) (omega arith) (omega arith) in
    decimal_step n l w ∙ (ap (λ ds. ds ++ ((48 + n % 10) ∷ [])) r ∙ sym (digits_step k n l)))
    (cases_lt n 10)

pub decimal_digits : (n : ℕ) → n < 2 ^ 64 → decimal n ≡ digits_of n
decimal_digits n w = decimal_at 19 n (omega arith) w

pub digits_in_room : (n : ℕ) → length (digits_of n) ≤ 20
digits_in_room n = digits_bounded 19 n

pub ruleset count_rules = (decimal_digits, digits_in_room, digits_small)
