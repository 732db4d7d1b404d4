use Rattle.std.proofs.Common.{arith}
use Rattle.store.proofs.Performed as laws
use Rattle.store.proofs.Store.accept.Goals as goal

pub apply_known-requires-clause-has_room : goal.apply_known-requires-clause-has_room
apply_known-requires-clause-has_room c = search (laws.call-room, arith)

pub accept-requires-clause-lock_room : goal.accept-requires-clause-lock_room
accept-requires-clause-lock_room c = search (laws.lock-room, arith)

pub accept-requires-clause-log_room : goal.accept-requires-clause-log_room
accept-requires-clause-log_room c = search (laws.log-room, arith)

pub invariant_of-self : goal.invariant_of-self
invariant_of-self c = search (laws.called-Sound, arith)

pub returns-clause-store : goal.returns-clause-store
returns-clause-store c = search (laws.called-store, arith)

pub returns-clause-answer : goal.returns-clause-answer
returns-clause-answer c = search (laws.call-answer, arith)
