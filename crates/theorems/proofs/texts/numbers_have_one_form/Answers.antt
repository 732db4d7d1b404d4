-- `theorems::numbers_have_one_form` meets its contract.
use Rattle.numbers.proofs.Theorems.{read_is_canonical}
use Rattle.theorems.proofs.texts.numbers_have_one_form.Goals as goal

pub returns-clause-read_is_canonical : goal.returns-clause-read_is_canonical
returns-clause-read_is_canonical c = read_is_canonical
