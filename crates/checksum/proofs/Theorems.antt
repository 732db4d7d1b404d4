-- The theorems of the checksum, as `specs/Theorems.antt` states them.
-- Assumes nothing.
use Rattle.std.proofs.Common.{◌≡◌, ℕ, zero, suc, ◌+◌, ◌*◌, ◌%◌, ◌^◌, ◌<◌, [], ◌∷◌, get_or, refl, ap, ◌∙◌, le_of_suc-le-suc, not-suc-le-zero, arith}
use Rattle.checksum.specs.Checksum.{weight_of, weights_from, weight_table, checksum_from}
use Rattle.checksum.specs.Theorems.{PiecesJoined, EntriesAreWeights, ChecksumBounded}
use Rattle.checksum.specs.Theorems.{printed_values, PrintedValuesRight}

pub pieces_joined : PiecesJoined
unfolding checksum_from
pieces_joined sum [] b = refl
pieces_joined sum (x ∷ a) b = pieces_joined ((31 * sum + weight_of x) % 2 ^ 32) a b

-- the rule at each entry of a stretch of the table
entry : (b n k : ℕ) → k < n → get_or (weights_from b n) k 0 ≡ weight_of (b + k)
unfolding weights_from
entry b zero k h = absurd (not-suc-le-zero h)
entry b (suc n) zero h = let e : b ≡ b + 0 = omega arith in ap weight_of e
entry b (suc n) (suc k) h =
    let e : suc b + k ≡ b + suc k = omega arith in
    entry (suc b) n k (le_of_suc-le-suc h) ∙ ap weight_of e

pub entries_are_weights : EntriesAreWeights
unfolding weight_table
entries_are_weights b h = let e : 0 + b ≡ b = omega arith in entry 0 256 b h ∙ ap weight_of e

pub checksum_bounded : ChecksumBounded
unfolding checksum_from
checksum_bounded sum [] h = h
checksum_bounded sum (b ∷ bs) h = checksum_bounded ((31 * sum + weight_of b) % 2 ^ 32) bs (omega arith)

pub printed_values_right : PrintedValuesRight
unfolding printed_values checksum_from
printed_values_right = refl
