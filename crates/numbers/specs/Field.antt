-- The field that stands at a place of a text: its number, and the place where it ends. Assumes nothing.
use Rattle.std.specs.Prelude.{ℕ, ◌+◌, ◌≤◌, ◌<◌, ◌≡◌, ◌⊎◌, if◌then◌else◌, List, [], ◌∷◌, nat_lt, length, take, drop}
use Rattle.std.specs.Prelude.{Option, Some, None, IfSome}
use Rattle.lines.specs.Lines.{up_to}
use Rattle.numbers.specs.declared.Field.{Field}
use Rattle.numbers.specs.Number.{value_from, number_of}

-- what stands before the first comma (44), or all of it where there is none
abbrev pub field : List ℕ → List ℕ
field l = take (up_to 44 l) l

-- what stands behind the first comma
abbrev pub others : List ℕ → List ℕ
others l = drop (up_to 44 l + 1) l

-- the digits that a text starts with
unfoldable pub leading : List ℕ → List ℕ
leading [] = []
leading (b ∷ bs) = if nat_lt b 48 then [] else if nat_lt 57 b then [] else b ∷ leading bs

-- a number that ends at a place
abbrev pub ending_at : ℕ → Option ℕ → Option Field
ending_at place (Some n) = Some (record { value = n; end = place })
ending_at place None = None

-- the field from a place on, up to the first comma or the end of the text
unfoldable pub field_at : List ℕ → ℕ → Option Field
field_at s at = ending_at (at + up_to 44 (drop at s)) (number_of (field (drop at s)))

-- the field from a place on, where a comma ends it
unfoldable pub inner_field_at : List ℕ → ℕ → Option Field
inner_field_at s at = if nat_lt (at + up_to 44 (drop at s)) (length s) then field_at s at else None

-- a comma ends the field from a place on: its number, where it ends, and what stands behind the comma
pub record InnerField (s : List ℕ) (at : ℕ) (f : Field) : Type 0 where
  pub number : number_of (field (drop at s)) ≡ Some f.value
  pub end : f.end ≡ at + up_to 44 (drop at s)
  pub within : f.end < length s
  pub behind : drop (f.end + 1) s ≡ others (drop at s)

-- the field from a place on is no number, or nothing stands behind it
pub record NoInnerField (s : List ℕ) (at : ℕ) : Type 0 where
  pub nothing : (number_of (field (drop at s)) ≡ None) ⊎ (others (drop at s) ≡ [])

-- the number of the digits from a place on, up to the first byte that is none
unfoldable pub leading_at : List ℕ → ℕ → Option Field
leading_at s at = ending_at (at + length (leading (drop at s))) (number_of (leading (drop at s)))

-- the digits from a place on end at another, are at most nine, and have the value n
pub record DigitsTo (s : List ℕ) (at end n : ℕ) : Type 0 where
  pub ends : at + length (leading (drop at s)) ≡ end
  pub few : end ≤ at + 9
  pub value : value_from 0 (leading (drop at s)) ≡ Some n
  pub fits : n < 1000000000

-- what passing the digits from a place on finds
abbrev pub DigitsPassed : List ℕ → ℕ → Option Field → Type 0
DigitsPassed s at (Some number) = DigitsTo s at number.end number.value
DigitsPassed s at None = 9 < length (leading (drop at s))

-- a field ends within the text, and its number has at most nine digits
abbrev pub FieldFits : ℕ → Option Field → Type 0
FieldFits size field = IfSome field (λ f. (f.end ≤ size) × (f.value < 1000000000))
