-- The transactions from the index on are left to recover.
use Rattle.std.proofs.Common.{◌≡◌, drop}
use Rattle.boosting.specs.Recovery.{recover}
use Rattle.store.proofs.Store.recover.Given as goal

abbrev pub invariant-loop-e : goal.invariant-loop-e
invariant-loop-e l = recover l.self (drop l.e-index l.e-items) ≡ recover l.initial.self l.e-items
