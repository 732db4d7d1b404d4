-- The entries counted and those left to count are all.
use Rattle.std.proofs.Common.{drop, ◌*◌, ◌+◌, ◌≡◌, ◌≤◌}
use Rattle.slots.specs.Entries.{entries_in}
use Rattle.slots.proofs.all_entries.Given as goal

abbrev pub invariant-loop-transaction : goal.invariant-loop-transaction
invariant-loop-transaction l = record {
  counted : l.entries + entries_in (drop l.transaction-index l.transactions) ≡ entries_in l.transactions;
  fits : l.entries ≤ 16 * l.transaction-index;
}
