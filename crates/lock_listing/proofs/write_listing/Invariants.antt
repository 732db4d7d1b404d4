-- What is left to write gives the whole.
use Rattle.lock_listing.specs.Listed.{listing_text}
use Rattle.lock_listing.proofs.Listings.{listing_after}
use Rattle.buffers.proofs.Rest.{Left}
use Rattle.lock_listing.proofs.write_listing.Given as goal

abbrev pub invariant-loop-i : goal.invariant-loop-i
invariant-loop-i l =
    Left l.initial.buf (listing_text l.transactions) l.at l.buf (listing_after l.transactions l.i) l.end
