-- The checksum at a place of a text, as the loop goes: one byte more, and the end.
-- Assumes nothing.
use Rattle.std.proofs.Common.{◌≡◌, ℕ, ◌+◌, ◌*◌, ◌%◌, ◌^◌, ◌<◌, ◌≤◌, List, length, get_or, drop, add-one, drop_of_length-le, drop-cons}
use Rattle.checksum.specs.Checksum.{weight_of, checksum_from}

pub checksum_more : (s : List ℕ) (sum i : ℕ) → i < length s
    → checksum_from sum (drop i s) ≡ checksum_from ((31 * sum + weight_of (get_or s i 0)) % 2 ^ 32) (drop (i + 1) s)
unfolding checksum_from
checksum_more s sum i h = rw (drop-cons s i 0 h, add-one)

pub checksum_end : (s : List ℕ) (sum i : ℕ) → length s ≤ i → checksum_from sum (drop i s) ≡ sum
unfolding checksum_from
checksum_end s sum i h = rw (drop_of_length-le s h)
