-- The slots of the entries looked at are in, no more than one each.
use Rattle.std.proofs.Common.{length, reverse, take, ◌+◌, ◌≡◌, ◌≤◌}
use Rattle.boosting.specs.Room.{reserved_by}
use Rattle.slots.proofs.reserve_log.Given as goal

abbrev pub invariant-loop-entry : goal.invariant-loop-entry
invariant-loop-entry l = record {
  put : l.slots ≡ reserved_by (reverse (take l.entry-index l.entry-items)) l.initial.slots;
  few : length l.slots ≤ length l.initial.slots + l.entry-index;
}
