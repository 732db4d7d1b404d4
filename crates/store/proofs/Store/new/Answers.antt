use Rattle.std.proofs.Common.{arith}
use Rattle.store.proofs.Opened as laws
use Rattle.store.proofs.Store.new.Goals as goal

pub invariant_of-result : goal.invariant_of-result
invariant_of-result c = search (laws.new-Sound, arith)
