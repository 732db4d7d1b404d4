-- `theorems::calls_do_what_they_say` meets its contract.
use Rattle.boosting.proofs.Sound.{aborting_unwinds}
use Rattle.theorems.proofs.terms.calls_do_what_they_say.Goals as goal

pub returns-clause-aborting : goal.returns-clause-aborting
returns-clause-aborting c = aborting_unwinds
