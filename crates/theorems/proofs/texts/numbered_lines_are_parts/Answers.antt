-- `theorems::numbered_lines_are_parts` meets its contract.
use Rattle.numbered_lines.proofs.Theorems.{numbered_places}
use Rattle.theorems.proofs.texts.numbered_lines_are_parts.Goals as goal

pub returns-clause-places : goal.returns-clause-places
returns-clause-places c = numbered_places
