-- `numbers::leading_number` meets its contract: its tests are those of `number_of` that the digits passed leave open.
use Rattle.std.proofs.Common.{arith, get_or, ◌-◌, ◌∙◌, ◌≡◌}
use Rattle.numbers.proofs.FieldLaws.{digits_good, digits_none, digits_within, digits_zero, many_passed}
use Rattle.numbers.proofs.leading_number.Goals as goal
use Rattle.numbers.proofs.leading_number.Goals.{else-s-at-eq-ZERO-via-then-s-at-eq-ZERO+else-number-at-gt1, else-s-at-eq-ZERO-via-else-s-at-eq-ZERO}

pub returns-in_err-number-clause-is_leading : goal.returns-in_err-number-clause-is_leading
returns-in_err-number-clause-is_leading c =
    c.from_residual.ensures ∙ many_passed c.args.s.now c.args.at _ c.pass_digits.ensures c.in_err-number.was

pub returns-then-number-at-clause-is_leading : goal.returns-then-number-at-clause-is_leading
returns-then-number-at-clause-is_leading c =
    digits_none c.args.s.now c.args.at _ _ c.in_ok-number.ensures c.if-number-at.true

pub bounds-s-at : goal.bounds-s-at
bounds-s-at c =
    let d = c.in_ok-number.ensures in
    omega (arith, d.ends, digits_within c.args.s.now c.args.at _ _ d c.if-number-at.false)

pub returns-then-number-at-gt1-clause-is_leading : goal.returns-then-number-at-gt1-clause-is_leading
returns-then-number-at-gt1-clause-is_leading c =
    digits_zero c.args.s.now c.args.at _ _ c.in_ok-number.ensures c.if-number-at.false (λ e. omega arith) c.if-s-at-eq-ZERO.true

pub returns : goal.returns
returns c =
    let s = c.args.s.now in
    let at = c.args.at in
    let few : (c.in_ok-number.number.end - at ≡ 1 → ⊥) → get_or s at 0 ≡ 48 → ⊥ =
    elim c.else-s-at-eq-ZERO.branch [
      | else-s-at-eq-ZERO-via-then-s-at-eq-ZERO+else-number-at-gt1 w ↦ (λ one _. one (let e : c.in_ok-number.number.end - at ≡ 1 = omega (arith, c.in_ok-number.ensures.ends) in e))
      | else-s-at-eq-ZERO-via-else-s-at-eq-ZERO w ↦ (λ _ zero. w.if-s-at-eq-ZERO.false zero)
    ] in
    let g = digits_good s at _ _ c.in_ok-number.ensures c.if-number-at.false few in
    record { is_leading = g.0; fits = g.1 }
