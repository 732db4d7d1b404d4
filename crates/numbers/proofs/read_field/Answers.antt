-- `numbers::read_field` meets its contract: the digits at the place fill the field exactly if it ends behind them.
use Rattle.std.proofs.Common.{arith, sym, ◌∙◌}
use Rattle.numbers.proofs.FieldLaws.{field_broken, field_comma, field_none, field_end}
use Rattle.numbers.proofs.read_field.Goals as goal
use Rattle.numbers.proofs.read_field.Goals.{else-number-s-via-then-number-s+else-s-number-ne-COMMA, else-number-s-via-else-number-s}

pub returns-in_err-number-clause-is_the_field : goal.returns-in_err-number-clause-is_the_field
returns-in_err-number-clause-is_the_field c =
    c.from_residual.ensures ∙ field_none c.args.s.now c.args.at (sym c.leading_number.ensures.is_leading ∙ c.in_err-number.was)

pub returns-then-s-number-ne-COMMA-clause-is_the_field : goal.returns-then-s-number-ne-COMMA-clause-is_the_field
returns-then-s-number-ne-COMMA-clause-is_the_field c =
    let q = sym c.leading_number.ensures.is_leading ∙ c.in_ok-number.was in
    field_broken c.args.s.now c.args.at c.in_ok-number.number.value c.in_ok-number.number.end q c.if-number-s.true
    c.if-s-number-ne-COMMA.true

pub returns-clause-is_the_field : goal.returns-clause-is_the_field
returns-clause-is_the_field c =
    let q = sym c.leading_number.ensures.is_leading ∙ c.in_ok-number.was in
    elim c.else-number-s.branch [
      | else-number-s-via-then-number-s+else-s-number-ne-COMMA w ↦
          field_comma c.args.s.now c.args.at c.in_ok-number.number.value c.in_ok-number.number.end q w.if-number-s.true
          w.if-s-number-ne-COMMA.false
      | else-number-s-via-else-number-s w ↦
          field_end c.args.s.now c.args.at c.in_ok-number.number.value c.in_ok-number.number.end q (omega (arith, c.in_ok-number.ensures.fits.0))
    ]
