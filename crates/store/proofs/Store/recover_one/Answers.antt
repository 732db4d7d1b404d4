use Rattle.std.proofs.Common.{arith}
use Rattle.store.proofs.Performed.{log_is}
use Rattle.store.proofs.Recovering.{one_recovered}
use Rattle.store.proofs.Store.recover_one.Goals as goal

pub returns : goal.returns
returns c = search (one_recovered, log_is, arith)
