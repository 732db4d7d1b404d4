-- Eight bytes of a text as one number, the first byte the lowest. Assumes nothing.
use Rattle.std.specs.Prelude.{ℕ, ◌+◌, ◌*◌, ◌<◌, if◌then◌else◌, List, [], ◌∷◌, nat_le, length, take, drop}
use Rattle.std.specs.Prelude.{Option, Some, None}

-- bytes as one number in base 256, the first the lowest
abbrev pub number_from : List ℕ → ℕ
number_from [] = 0
number_from (b ∷ l) = b + 256 * number_from l

abbrev pub AllBytes : List ℕ → Type 0
AllBytes [] = Unit {0}
AllBytes (b ∷ l) = (b < 256) × AllBytes l

-- the number of the eight bytes at a place, where there are eight
abbrev pub eight_at : List ℕ → ℕ → Option ℕ
eight_at s at = if nat_le (at + 8) (length s) then Some (number_from (take 8 (drop at s))) else None
