-- Computed examples of the numbered line: in either text, an empty line, 0, and past the end.
-- Assumes nothing.
use mathlib.Core.Path.{◌≡◌, refl}
use mathlib.Core.List.{List, [], ◌∷◌}
use Prim.Native.Nat.{ℕ}
use denote.Ref.{Bor}
use Rattle.lines.specs.Lines.{onto, lines_of}
use Rattle.numbered_lines.specs.Numbered.{seek, numbered}

-- the start script `ab`, `c` is at (1, 0), the step list `d`, an empty line, `e` at (2, 8)
abbrev start : Bor (List ℕ)
start = record { ref_ptr = (1, 0); now = 97 ∷ 98 ∷ 10 ∷ 99 ∷ [] }

abbrev steps : Bor (List ℕ)
steps = record { ref_ptr = (2, 8); now = 100 ∷ 10 ∷ 10 ∷ 101 ∷ 10 ∷ [] }

line_0 : numbered start steps 0 ≡ ((2, 13), [])
line_0 = refl

line_2 : numbered start steps 2 ≡ ((1, 3), 99 ∷ [])
unfolding seek lines_of onto
line_2 = refl

line_3 : numbered start steps 3 ≡ ((2, 8), 100 ∷ [])
unfolding seek lines_of onto
line_3 = refl

line_4 : numbered start steps 4 ≡ ((2, 10), [])
unfolding seek lines_of onto
line_4 = refl

line_5 : numbered start steps 5 ≡ ((2, 11), 101 ∷ [])
unfolding seek lines_of onto
line_5 = refl

line_6 : numbered start steps 6 ≡ ((2, 13), [])
unfolding seek lines_of onto
line_6 = refl
