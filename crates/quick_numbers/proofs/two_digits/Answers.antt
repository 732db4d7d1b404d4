-- `quick_numbers::two_digits` meets its contract. The two branches on the second digit join.
use Rattle.std.proofs.Common.{arith, drop, ap, ◌∙◌, ◌≡◌, ⊎_elim}
use Rattle.std.proofs.lemmas.List.{take_rest}
use Rattle.quick_numbers.proofs.Two.{first_alone, leading_zero, not_first, two_digits}
use Rattle.quick_numbers.specs.Short.{short_of}
use Rattle.quick_numbers.proofs.two_digits.Goals as goal
use Rattle.quick_numbers.proofs.two_digits.Goals.{then-second-le9 as two, else-second-le9 as one}

pub returns-then-first-gt9 : goal.returns-then-first-gt9
returns-then-first-gt9 c =
    let rest : c.in_ok-get.field-0.now ≡ drop c.args.at c.args.text.now = c.in_ok-get.ensures.lookup.0.2 ∙ take_rest c.args.text.now c.args.at in
    not_first _ _ c.in_ok-bytes.ensures.cases _ _ c.digit_of-first.ensures c.digit_of-second.ensures (omega arith) (omega arith)
    ∙ ap (short_of 2 2) rest

pub returns-then-first-eq0 : goal.returns-then-first-eq0
returns-then-first-eq0 c =
    let rest : c.in_ok-get.field-0.now ≡ drop c.args.at c.args.text.now = c.in_ok-get.ensures.lookup.0.2 ∙ take_rest c.args.text.now c.args.at in
    let by_second = c.if-second-le9.branch in
    elim by_second [
      | two w ↦
          leading_zero _ _ c.in_ok-bytes.ensures.cases _ _ c.digit_of-first.ensures c.digit_of-second.ensures (omega arith)
          (omega arith) (omega arith)
          ∙ ap (short_of 2 2) rest
      | one w ↦ absurd (omega arith)
    ]

pub returns : goal.returns
returns c =
    let rest : c.in_ok-get.field-0.now ≡ drop c.args.at c.args.text.now = c.in_ok-get.ensures.lookup.0.2 ∙ take_rest c.args.text.now c.args.at in
    elim c.if-second-le9.branch [
      | two w ↦
          rw (w.value-is, w.digits-is)
          (two_digits _ _ c.in_ok-bytes.ensures.cases _ _ c.digit_of-first.ensures c.digit_of-second.ensures (omega arith)
          (omega arith) (λ e. ⊎_elim (λ v. v.1 e) (λ v. absurd (omega arith)) c.else-digits-eq2.either)
          ∙ ap (short_of 2 2) rest)
      | one w ↦
          rw (w.value-is, w.digits-is)
          (first_alone _ _ c.in_ok-bytes.ensures.cases _ _ c.digit_of-first.ensures c.digit_of-second.ensures (omega arith)
          (omega arith) (omega arith)
          ∙ ap (short_of 2 2) rest)
    ]
