-- In each case the text that is left to print is the output.
use Rattle.std.proofs.Common.{Err, ap, arith, ◌∙◌}
use Rattle.std.proofs.lemmas.Result.{err_from_is_err_and}
use Rattle.inputs.proofs.Division.{list_part, start_part}
use Rattle.session.proofs.Outcomes.{length_short, output_long, output_refused, output_run}
use Rattle.session.proofs.starting.start_session.Goals as goal

pub returns-in_err-check_length : goal.returns-in_err-check_length
returns-in_err-check_length c =
    let p = err_from_is_err_and c.from_residual.result c.from_residual.ensures.1 in
    rw (p.1 ∙ ap Err p.2) (output_long c.args.input.now c.in_err-check_length.field-0.0 c.in_err-check_length.ensures)

pub returns-in_err-open : goal.returns-in_err-open
returns-in_err-open c =
    let s = c.args.input.now in
    let h = length_short s c.in_ok-check_length.ensures in
    let p = err_from_is_err_and c.from_residual-in_err-open.result c.from_residual-in_err-open.ensures.1 in
    rw (p.1 ∙ ap Err p.2)
    (output_refused s _ c.in_err-open.field-0.0 h (start_part s c.find_steps-at.result c.find_steps-at.ensures)
    c.in_err-open.ensures.answer)

pub returns : goal.returns
returns c =
    let h = length_short c.args.input.now c.in_ok-check_length.ensures in
    grind (arith, start_part, list_part, output_run)
