-- `theorems::each_row_turns_away` meets its contract.
use Rattle.boosting.proofs.Refusals.{rows_decide}
use Rattle.theorems.proofs.terms.each_row_turns_away.Goals as goal

pub returns-clause-rows_decide : goal.returns-clause-rows_decide
returns-clause-rows_decide c = rows_decide
