-- A short number at the front of a text. Assumes nothing.
use Rattle.std.specs.Prelude.{◌≡◌, ℕ, ◌+◌, ◌<◌, ◌≤◌, if◌then◌else◌, List, length, take, drop, nat_le}
use Rattle.std.specs.Prelude.{Option, Some, None}
use Rattle.numbers.specs.Number.{number_of}
use Rattle.numbers.specs.Field.{leading}
use Rattle.quick_numbers.specs.declared.Short.{Short}

-- a number and how many digits it has
abbrev pub short_from : Option ℕ → ℕ → Option Short
short_from (Some v) d = Some (record { value = v; digits = d })
short_from None d = None

-- the number of digits, of which there are at most so many
abbrev pub short_among : ℕ → List ℕ → Option Short
short_among most t = if nat_le (length t) most then short_from (number_of t) (length t) else None

-- the number at the front of a text of at least `window` bytes, whose digits, as far as these bytes go, are at most
-- `most`
unfoldable pub short_of : ℕ → ℕ → List ℕ → Option Short
short_of most window l = if nat_le window (length l) then short_among most (leading (take window l)) else None

-- what a caller needs of it: some digits at a place, at most so many, all within the text, and their number
pub record ShortStands (s : List ℕ) (at most : ℕ) (r : Short) : Type 0 where
  pub some : 0 < r.digits
  pub few : r.digits ≤ most
  pub within : at + r.digits ≤ length s
  pub number : number_of (take r.digits (drop at s)) ≡ Some r.value

abbrev pub ShortFits : List ℕ → ℕ → ℕ → Option Short → Type 0
ShortFits s at most (Some r) = ShortStands s at most r
ShortFits s at most None = Unit {0}
