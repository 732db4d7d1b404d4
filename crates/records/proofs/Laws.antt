-- How long fields and records are. Assumes nothing.
use mathlib.Core.Path.{◌≡◌}
use mathlib.Core.List.{List, [], ◌∷◌, ◌++◌}
use Prim.Native.Nat.{ℕ, ◌+◌}
use native.Mathlib.Omega.{arith}
use lib.ListN.{length, length-append}
use Rattle.digits.specs.Digits.{digits_of}
use Rattle.records.specs.Record.{field_text, record_text}

-- ---- a field
pub field_length : (n b : ℕ) → length (field_text n b) ≡ length (digits_of n) + 1
field_length n b = length-append (digits_of n) (b ∷ [])

-- ---- a record
pub record_length : (word : List ℕ) (a b : ℕ)
    → length (record_text word a b) ≡ length word + (1 + (length (field_text a 44) + length (field_text b 10)))
unfolding record_text
record_length word a b =
    let f = length-append (field_text a 44) (field_text b 10) in
    let w = length-append word (44 ∷ (field_text a 44 ++ field_text b 10)) in
    omega arith
