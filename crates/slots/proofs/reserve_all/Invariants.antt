-- The slots of the last transactions are in, no more than sixteen for each log.
use Rattle.std.proofs.Common.{length, drop, ◌*◌, ◌+◌, ◌-◌, ◌≡◌, ◌≤◌}
use Rattle.boosting.specs.Room.{reserved_in}
use Rattle.slots.proofs.reserve_all.Given as goal

abbrev pub invariant-loop-transaction : goal.invariant-loop-transaction
invariant-loop-transaction l = record {
  put : l.slots ≡ reserved_in (drop (length l.transactions - length l.yielded) l.transactions) l.object.script;
  few : length l.slots ≤ 256 + 16 * length l.yielded;
}
