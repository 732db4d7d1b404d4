-- `theorems::input_is_divided` meets its contract.
use Rattle.inputs.proofs.Division.{divided_at_steps}
use Rattle.theorems.proofs.program.input_is_divided.Goals as goal

pub returns : goal.returns
returns c = divided_at_steps
