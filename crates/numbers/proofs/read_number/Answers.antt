-- `numbers::read_number` meets its contract: the digits at the start are the number exactly if they are all.
use Rattle.std.proofs.Common.{arith, sym, ◌∙◌}
use Rattle.numbers.proofs.FieldLaws.{whole, whole_none, whole_past}
use Rattle.numbers.proofs.read_number.Goals as goal

pub returns-in_err-number-clause-is_the_number : goal.returns-in_err-number-clause-is_the_number
returns-in_err-number-clause-is_the_number c =
    c.from_residual.ensures ∙ whole_none c.args.field.now (sym c.leading_number.ensures.is_leading ∙ c.in_err-number.was)

pub returns-then-number-field-clause-is_the_number : goal.returns-then-number-field-clause-is_the_number
returns-then-number-field-clause-is_the_number c =
    let q = sym c.leading_number.ensures.is_leading ∙ c.in_ok-number.was in
    whole_past c.args.field.now c.in_ok-number.number.value c.in_ok-number.number.end q (omega arith) (λ e. omega arith)

pub returns-clause-is_the_number : goal.returns-clause-is_the_number
returns-clause-is_the_number c =
    let q = sym c.leading_number.ensures.is_leading ∙ c.in_ok-number.was in
    whole c.args.field.now c.in_ok-number.number.value c.in_ok-number.number.end q (omega (arith, c.in_ok-number.ensures.fits.0))
