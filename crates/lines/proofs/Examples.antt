-- Computed examples of the definitions: texts with and without a closing LF, and empty lines.
-- Assumes nothing.
use mathlib.Core.Path.{◌≡◌, refl}
use mathlib.Core.List.{List, [], ◌∷◌}
use Prim.Native.Nat.{ℕ}
use Rattle.lines.specs.Lines.{up_to, onto, lines_of}
use Rattle.std.specs.Prelude.{Some, None}
use Rattle.lines.specs.Line.{line_at}
use Rattle.lines.specs.Theorems.{joined, read_from}

-- ---- the lines of a text
empty_text : lines_of [] ≡ []
unfolding lines_of
empty_text = refl

-- `a`, and `a` with its LF, are the same one line
open_line : lines_of (97 ∷ []) ≡ (97 ∷ []) ∷ []
unfolding lines_of onto
open_line = refl

closed_line : lines_of (97 ∷ 10 ∷ []) ≡ (97 ∷ []) ∷ []
unfolding lines_of onto
closed_line = refl

-- an LF alone is one empty line, and two are two
lone_lf : lines_of (10 ∷ []) ≡ [] ∷ []
unfolding lines_of
lone_lf = refl

two_lfs : lines_of (10 ∷ 10 ∷ []) ≡ [] ∷ [] ∷ []
unfolding lines_of
two_lfs = refl

-- empty lines in the middle: `a`, two empty ones, `bc`
abbrev gaps : List ℕ
gaps = 97 ∷ 10 ∷ 10 ∷ 10 ∷ 98 ∷ 99 ∷ []

lines_of-gaps : lines_of gaps ≡ (97 ∷ []) ∷ [] ∷ [] ∷ (98 ∷ 99 ∷ []) ∷ []
unfolding lines_of onto
lines_of-gaps = refl

read_gaps : read_from 6 gaps 0 ≡ (97 ∷ []) ∷ [] ∷ [] ∷ (98 ∷ 99 ∷ []) ∷ []
unfolding read_from up_to
read_gaps = refl

-- what is missing at its end is one LF
closed_gaps : joined (lines_of gaps) ≡ 97 ∷ 10 ∷ 10 ∷ 10 ∷ 98 ∷ 99 ∷ 10 ∷ []
unfolding joined lines_of onto
closed_gaps = refl

-- ---- the line at a place: the first, an empty one, the last with no LF, and none from the end on
first_of_gaps : line_at gaps 0 ≡ Some (record { start = 0; end = 1; next = 2 })
unfolding up_to
first_of_gaps = refl

empty_of_gaps : line_at gaps 2 ≡ Some (record { start = 2; end = 2; next = 3 })
unfolding up_to
empty_of_gaps = refl

last_of_gaps : line_at gaps 4 ≡ Some (record { start = 4; end = 6; next = 7 })
unfolding up_to
last_of_gaps = refl

none_at_end : line_at gaps 6 ≡ None
none_at_end = refl

none_past_end : line_at gaps 7 ≡ None
none_past_end = refl
