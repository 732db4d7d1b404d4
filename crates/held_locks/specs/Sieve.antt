-- A sieve of keys: a word with the bit of each key and no other bit. A key whose bit it has not is none of them.
-- Assumes nothing.
use Rattle.std.specs.Prelude.{ℕ, ◌+◌, ◌/◌, ◌%◌, ◌^◌, Bool, List, [], ◌∷◌, nat_eq}
use Rattle.std.specs.Int.Bits.{bit_or}

-- the bit of a key, by the low bits of its pin and of its time
abbrev pub sieve_bit : ℕ → ℕ
sieve_bit k = (k % 64 + k / 65536 % 64) % 64

-- the sieve with the bits of these keys too
unfoldable pub sieve_with : ℕ → List ℕ → ℕ
sieve_with sieve [] = sieve
sieve_with sieve (k ∷ keys) = sieve_with (bit_or sieve (2 ^ sieve_bit k)) keys

abbrev pub sieve_of : List ℕ → ℕ
sieve_of keys = sieve_with 0 keys

-- whether the sieve lets a key pass: it has the key's bit
abbrev pub passes : ℕ → ℕ → Bool
passes sieve k = nat_eq (sieve / 2 ^ sieve_bit k % 2) 1
