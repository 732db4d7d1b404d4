-- What is proved of the checksum's definition, beside the contracts; the proofs are in `proofs/Theorems.antt`.
-- Assumes nothing.
use Rattle.std.specs.Prelude.{◌≡◌, ℕ, ◌^◌, ◌<◌, List, [], ◌∷◌, ◌++◌, map, slice_index}
use Rattle.checksum.specs.Checksum.{weight_of, weight_table, checksum_from, checksum_of}

-- a text may be done in pieces, cut anywhere
abbrev pub PiecesJoined : Type 0
PiecesJoined = (sum : ℕ) (a b : List ℕ) → checksum_from sum (a ++ b) ≡ checksum_from (checksum_from sum a) b

-- every entry of the table is the weight of its byte
abbrev pub EntriesAreWeights : Type 0
EntriesAreWeights = (b : ℕ) → b < 256 → slice_index weight_table b ≡ weight_of b

-- a checksum is below 2^32, and stays so when it is continued
abbrev pub ChecksumBounded : Type 0
ChecksumBounded = (sum : ℕ) (text : List ℕ) → sum < 2 ^ 32 → checksum_from sum text < 2 ^ 32

-- what the definitions give, beside the values that are known: the weights of 0, 1, 2 and 255, and the checksums of no
-- bytes, of `0`, and of `0` and LF
unfoldable pub printed_values : List (ℕ × ℕ)
printed_values =
    (weight_of 0, 12345)
    ∷ (weight_of 1, 52848)
    ∷ (weight_of 2, 27815)
    ∷ (weight_of 255, 51458)
    ∷ (checksum_of [], 0)
    ∷ (checksum_of (48 ∷ []), 55945)
    ∷ (checksum_of (48 ∷ 10 ∷ []), 1758454)
    ∷ []

-- each of the printed values is right
abbrev pub PrintedValuesRight : Type 0
PrintedValuesRight = map (λ (v : ℕ × ℕ). v.0) printed_values ≡ map (λ (v : ℕ × ℕ). v.1) printed_values
