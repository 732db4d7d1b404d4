-- The loop's invariant: the sum so far, continued over what is left of the text, is the checksum of the whole.
use Rattle.std.proofs.Common.{drop, ◌≡◌}
use Rattle.checksum.specs.Checksum.{checksum_from}
use Rattle.checksum.proofs.checksum_from.Given as goal

abbrev pub invariant-loop-byte : goal.invariant-loop-byte
invariant-loop-byte l = checksum_from l.sum (drop l.byte-index l.text) ≡ checksum_from l.before l.text
