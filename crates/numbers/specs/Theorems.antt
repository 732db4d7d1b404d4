-- What holds of reading and writing numbers; proved in `proofs/Theorems.antt`. Assumes nothing.
use Rattle.std.specs.Prelude.{◌≡◌, List, ℕ, ◌<◌, ◌^◌, Some}
use Rattle.digits.specs.Digits.{digits_of}
use Rattle.numbers.specs.Number.{value_from, number_of}

-- a number of at most nine digits, written and read, is the same number
abbrev pub WriteThenRead : Type 0
WriteThenRead = (n : ℕ) → n < 1000000000 → number_of (digits_of n) ≡ Some n

-- the bytes of every field that is read as a number are that number's one written form
abbrev pub ReadIsCanonical : Type 0
ReadIsCanonical = (s : List ℕ) (n : ℕ) → number_of s ≡ Some n → (s ≡ digits_of n) × (n < 1000000000)

-- the digits written for a number of 64 bits stand for that number
abbrev pub EveryNumber : Type 0
EveryNumber = (n : ℕ) → n < 2 ^ 64 → value_from 0 (digits_of n) ≡ Some n
