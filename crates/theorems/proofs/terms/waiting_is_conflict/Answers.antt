-- `theorems::waiting_is_conflict` meets its contract.
use Rattle.boosting.proofs.Boosting.{blocked_exactly}
use Rattle.theorems.proofs.terms.waiting_is_conflict.Goals as goal

pub returns : goal.returns
returns c = blocked_exactly
