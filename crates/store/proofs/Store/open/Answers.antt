use Rattle.std.proofs.Common.{arith}
use Rattle.store.proofs.Opened as laws
use Rattle.store.proofs.Store.open.Goals as goal

pub invariant_of-self : goal.invariant_of-self
invariant_of-self c = search (laws.accepted-Sound, c.in-Ok.ensures, arith)

pub invariant_of-self-in-Err : goal.invariant_of-self-in-Err
invariant_of-self-in-Err c = search (laws.new-Sound, arith)

pub open-requires-clause-in_order : goal.open-requires-clause-in_order
open-requires-clause-in_order c = laws.keys_in_order _ _ _ c.keys.ensures.value c.in-Ok.ensures
