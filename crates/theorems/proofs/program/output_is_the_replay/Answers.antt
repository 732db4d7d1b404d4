-- `theorems::output_is_the_replay` meets its contract.
use Rattle.session.proofs.Theorems.{closing_is_replay}
use Rattle.theorems.proofs.program.output_is_the_replay.Goals as goal

pub returns-clause-closing_is_replay : goal.returns-clause-closing_is_replay
returns-clause-closing_is_replay c = closing_is_replay
