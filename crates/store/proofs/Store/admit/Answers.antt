-- A number that is none of the eight meets row 2; rows 8 to 12 decide where no other row is met.
use Rattle.std.proofs.Common.{rules, Err, ap, ◌∙◌}
use Rattle.std.proofs.lemmas.Result.{err_from_is_err_and}
use Rattle.store.proofs.Rows.{not_numbered, call_decides}
use Rattle.store.proofs.Store.admit.Goals as goal

pub returns-in_err-e : goal.returns-in_err-e
returns-in_err-e c =
    let p = err_from_is_err_and c.from_residual.result c.from_residual.ensures.1 in
    p.1 ∙ ap Err p.2 ∙ not_numbered _ c.args.request _ c.in_err-e.ensures

pub returns-in-Open-OnObject-Some : goal.returns-in-Open-OnObject-Some
returns-in-Open-OnObject-Some c =
    let arm = c.in-Open-OnObject-Some in
    call_decides _ _ _ c.self.view_is c.args.request arm.call (search rules) _ c.in_ok-e.ensures arm.ensures.value _
    c.try_call.ensures
