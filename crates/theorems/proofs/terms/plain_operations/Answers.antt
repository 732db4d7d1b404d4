-- `theorems::plain_operations` meets its contract.
use Rattle.boosting.proofs.Plain.{calls_are_plain}
use Rattle.theorems.proofs.terms.plain_operations.Goals as goal

pub returns-clause-calls : goal.returns-clause-calls
returns-clause-calls c = calls_are_plain
