use Rattle.std.proofs.Common.{arith}
use Rattle.store.proofs.Performed as laws
use Rattle.store.proofs.Store.abort.Goals as goal

pub invariant_of-self : goal.invariant_of-self
invariant_of-self c = search (laws.aborts-Sound, arith)
