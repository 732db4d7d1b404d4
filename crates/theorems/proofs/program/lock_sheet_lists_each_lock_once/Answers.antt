-- `theorems::lock_sheet_lists_each_lock_once` meets its contract.
use Rattle.lock_listing.proofs.Theorems.{lines_once}
use Rattle.theorems.proofs.program.lock_sheet_lists_each_lock_once.Goals as goal

pub returns-clause-lines_once : goal.returns-clause-lines_once
returns-clause-lines_once c = lines_once
