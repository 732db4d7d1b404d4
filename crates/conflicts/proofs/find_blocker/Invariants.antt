-- What is still to be looked at decides; the lock stays the same.
use Rattle.std.proofs.Common.{◌≡◌, ◌≢◌, ◌+◌, drop}
use Rattle.tables.specs.Table.{member_of}
use Rattle.boosting.specs.Store.{blocker}
use Rattle.conflicts.proofs.find_blocker.Given as goal

abbrev pub invariant-loop-i : goal.invariant-loop-i
invariant-loop-i l =
    (l.lock ≡ l.fn.lock) × (blocker l.e l.lock (l.i + 1) (drop l.i l.transactions) ≡ blocker l.e l.fn.lock 1 l.transactions)

abbrev pub invariant-loop-held : goal.invariant-loop-held
invariant-loop-held l =
    l.i ≢ l.own → member_of l.key (drop l.held-index l.held-items) ≡ member_of l.key l.held-items
