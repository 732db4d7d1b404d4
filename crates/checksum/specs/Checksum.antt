-- The checksum of a text, which users call its stamp. It is a number modulo 2^32.
-- Assumes nothing.
use Rattle.std.specs.Prelude.{ℕ, zero, suc, ◌+◌, ◌*◌, ◌%◌, ◌^◌, List, [], ◌∷◌}

-- the weight of a byte: a linear rule, modulo 65,536
abbrev pub weight_of : ℕ → ℕ
weight_of b = (40503 * b + 12345) % 65536

-- the weights of n bytes, from the byte b on
unfoldable pub weights_from : ℕ → ℕ → List ℕ
weights_from b zero = []
weights_from b (suc n) = weight_of b ∷ weights_from (suc b) n

-- the weights of the 256 bytes, in order
unfoldable pub weight_table : List ℕ
weight_table = weights_from 0 256

-- the checksum `sum`, continued over a text: for each byte it becomes 31 times itself plus the byte's weight
unfoldable pub checksum_from : ℕ → List ℕ → ℕ
checksum_from sum [] = sum
checksum_from sum (b ∷ bs) = checksum_from ((31 * sum + weight_of b) % 2 ^ 32) bs

-- the checksum of a text: it starts at 0
abbrev pub checksum_of : List ℕ → ℕ
checksum_of text = checksum_from 0 text
