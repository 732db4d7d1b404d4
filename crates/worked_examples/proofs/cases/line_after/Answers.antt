-- `worked_examples::cases::line_after` meets its contract: what stands at its answer stands behind the line.
use Rattle.std.proofs.Common.{rules, tests}
use Rattle.std.proofs.lemmas.Iterator.{YieldsList-from_slice}
use Rattle.std.proofs.lemmas.Iterator.Search.{position_from_yields_List}
use Rattle.worked_examples.proofs.Case.{is_lf, line_found}
use Rattle.worked_examples.proofs.cases.line_after.Goals as goal

pub returns-in-Some-clause-behind : goal.returns-in-Some-clause-behind
returns-in-Some-clause-behind c =
    let found = line_found c.args.text.now c.args.at c.position.result
    (position_from_yields_List is_lf _ _ c.position.result c.position.ensures.ran
    (YieldsList-from_slice _ c.iter.ensures.rest) (λ x b q k. search (rules, tests))) in
    rw c.in-Some.is at found

pub returns-in-None-clause-behind : goal.returns-in-None-clause-behind
returns-in-None-clause-behind c =
    let found = line_found c.args.text.now c.args.at c.position.result
    (position_from_yields_List is_lf _ _ c.position.result c.position.ensures.ran
    (YieldsList-from_slice _ c.iter.ensures.rest) (λ x b q k. search (rules, tests))) in
    rw c.in-None.is at found
