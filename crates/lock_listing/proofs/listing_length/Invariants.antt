-- The sum so far and what is left are the whole length.
use Rattle.std.proofs.Common.{length, ◌*◌, ◌+◌, ◌≡◌, ◌≤◌}
use Rattle.lock_listing.specs.Listed.{listing_text}
use Rattle.lock_listing.proofs.Listings.{listing_after}
use Rattle.lock_listing.proofs.listing_length.Given as goal

abbrev pub invariant-loop-i : goal.invariant-loop-i
invariant-loop-i l = record {
  so_far : l.sum + length (listing_after l.transactions l.i) ≡ length (listing_text l.transactions);
  few : l.sum ≤ 2229 * l.i;
}
