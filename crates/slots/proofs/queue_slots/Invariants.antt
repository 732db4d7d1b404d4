-- The slots counted and those left to count are all.
use Rattle.std.proofs.Common.{drop, length, ◌*◌, ◌+◌, ◌≡◌, ◌≤◌}
use Rattle.boosting.specs.Room.{takes_in}
use Rattle.slots.proofs.queue_slots.Given as goal

abbrev pub invariant-loop-transaction : goal.invariant-loop-transaction
invariant-loop-transaction l = record {
  counted : l.slots + takes_in (drop l.transaction-index l.transactions) ≡ length l.queue + takes_in l.transactions;
  fits : l.slots ≤ length l.queue + 255 * l.transaction-index;
}
