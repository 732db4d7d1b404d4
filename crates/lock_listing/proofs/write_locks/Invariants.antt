-- What is left to write gives the whole.
use Rattle.lock_listing.specs.Listed.{locks_text}
use Rattle.lock_listing.proofs.Listings.{locks_from}
use Rattle.buffers.proofs.Rest.{Left}
use Rattle.lock_listing.proofs.write_locks.Given as goal

abbrev pub invariant-loop-key : goal.invariant-loop-key
invariant-loop-key l =
    Left l.initial.buf (locks_text l.e l.locks) l.at l.buf (locks_from l.e l.locks l.key-index) l.middle
