use Rattle.std.proofs.Common.{arith}
use Rattle.store.proofs.Performed as laws
use Rattle.store.proofs.Store.roll_back.Goals as goal

pub invariant_of-self : goal.invariant_of-self
invariant_of-self c = search (laws.none-Sound, arith)

pub returns-in_default-clause-answer : goal.returns-in_default-clause-answer
returns-in_default-clause-answer c = search (laws.none-answer, arith)

pub undo-requires : goal.undo-requires
undo-requires c = search (laws.some-room, arith)

pub invariant_of-self-2 : goal.invariant_of-self-2
invariant_of-self-2 c = search (laws.some-Sound, arith)

pub returns-clause-store : goal.returns-clause-store
returns-clause-store c = search (laws.some-store, arith)

pub returns-clause-answer : goal.returns-clause-answer
returns-clause-answer c = search (laws.some-answer, arith)
