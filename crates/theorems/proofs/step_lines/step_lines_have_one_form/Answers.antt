-- `theorems::step_lines_have_one_form` meets its contract.
use Rattle.steps.proofs.Theorems.{step_read_is_canonical}
use Rattle.theorems.proofs.step_lines.step_lines_have_one_form.Goals as goal

pub returns-clause-read_is_canonical : goal.returns-clause-read_is_canonical
returns-clause-read_is_canonical c = step_read_is_canonical
