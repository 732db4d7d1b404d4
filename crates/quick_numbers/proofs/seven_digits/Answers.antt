-- `quick_numbers::seven_digits` meets its contract.
use Rattle.std.proofs.Common.{arith, sym, ⊎_elim, ◌∙◌}
use Rattle.quick_numbers.proofs.Digits.{moved}
use Rattle.quick_numbers.proofs.Seven.{all_digits, few_or_many, leading_zero, no_eight, seven_digits}
use Rattle.quick_numbers.proofs.seven_digits.Goals as goal

pub returns-in_err-z : goal.returns-in_err-z
returns-in_err-z c =
    c.from_residual.ensures ∙ no_eight c.args.text.now c.args.at (sym c.in_err-z.was ∙ c.eight_bytes.ensures.number)

pub returns-then-n-lt1 : goal.returns-then-n-lt1
returns-then-n-lt1 c =
    few_or_many c.args.text.now c.args.at _ _ _ (sym c.in_ok-z.was ∙ c.eight_bytes.ensures.number)
    c.eight_bytes.ensures.bytes (omega arith) c.larger_bytes.ensures
    (λ some few. ⊎_elim (λ h. omega arith) (λ h. omega arith) c.then-n-lt1.either)

pub returns-then-z-n : goal.returns-then-z-n
returns-then-z-n c =
    leading_zero c.args.text.now c.args.at _ _ _ (sym c.in_ok-z.was ∙ c.eight_bytes.ensures.number)
    c.eight_bytes.ensures.bytes (omega arith) c.larger_bytes.ensures (omega arith) (omega arith)

pub number_of-requires : goal.number_of-requires
number_of-requires c =
    let digits = all_digits c.args.text.now c.args.at _ _ _ (sym c.in_ok-z.was ∙ c.eight_bytes.ensures.number)
    c.eight_bytes.ensures.bytes (omega arith) c.larger_bytes.ensures in
    (moved _ _ _ (omega arith) c.moved_up-y.ensures digits).0

pub returns : goal.returns
returns c =
    seven_digits c.args.text.now c.args.at _ _ _ (sym c.in_ok-z.was ∙ c.eight_bytes.ensures.number)
    c.eight_bytes.ensures.bytes (omega arith) c.larger_bytes.ensures _ _ (omega arith) (omega arith) c.moved_up-y.ensures
    c.number_of.ensures (omega arith)
