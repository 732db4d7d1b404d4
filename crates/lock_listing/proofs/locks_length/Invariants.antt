-- The sum so far and what is left are the whole length.
use Rattle.std.proofs.Common.{length, ◌*◌, ◌+◌, ◌≡◌, ◌≤◌}
use Rattle.lock_listing.specs.Listed.{modes_text, locks_text}
use Rattle.lock_listing.proofs.Listings.{locks_from}
use Rattle.lock_listing.proofs.locks_length.Given as goal

abbrev pub invariant-loop-key : goal.invariant-loop-key
invariant-loop-key l = record {
  so_far : l.sum + length (locks_from l.e l.locks l.key-index) ≡ length (modes_text l.e l.locks) + length (locks_text l.e l.locks);
  few : l.sum ≤ 93 + 89 * l.key-index;
}
