-- The text of a field and of a record. Assumes nothing.
use Rattle.std.specs.Prelude.{ℕ, List, [], ◌∷◌, ◌++◌}
use Rattle.digits.specs.Digits.{digits_of}

-- the digits of a number, and a byte behind them
abbrev pub field_text : ℕ → ℕ → List ℕ
field_text n b = digits_of n ++ (b ∷ [])

-- `word,first,second` and LF (10); 44 is the comma
unfoldable pub record_text : List ℕ → ℕ → ℕ → List ℕ
record_text word first second = word ++ 44 ∷ (field_text first 44 ++ field_text second 10)
