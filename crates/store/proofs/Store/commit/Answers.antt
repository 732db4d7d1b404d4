use Rattle.std.proofs.Common.{arith}
use Rattle.store.proofs.Performed as laws
use Rattle.store.proofs.Store.commit.Goals as goal

pub invariant_of-self : goal.invariant_of-self
invariant_of-self c = search (laws.closed-Sound, arith)

pub returns-clause-store : goal.returns-clause-store
returns-clause-store c = search (laws.committed, arith)
