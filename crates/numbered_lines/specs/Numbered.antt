-- The numbered line of two texts, as a stretch of the one that holds it.
-- Assumes nothing.
use Rattle.std.specs.Prelude.{ℕ, zero, suc, ◌+◌, ◌-◌, ◌≤◌, List, [], ◌∷◌, length, take, drop, Result, Ok, Err}
use Rattle.std.specs.Borrow.{Bor}
use Rattle.lines.specs.Lines.{lines_of}
use Rattle.lines.specs.Line.{line_to}
use Rattle.lines.specs.declared.Line.{Line}

-- where line k lies, counted from 0, of lines of which the first starts at the place; or how many are left to count
unfoldable pub seek : ℕ → List (List ℕ) → ℕ → Result Line ℕ
seek at [] k = Err k
seek at (l ∷ ls) zero = Ok (line_to at (at + length l))
seek at (l ∷ ls) (suc k) = seek (at + length l + 1) ls k

-- a line that was found lies in the text
abbrev pub Within : List ℕ → Result Line ℕ → Type 0
Within s (Ok line) = (line.start ≤ line.end) × (line.end ≤ length s)
Within s (Err k) = Unit {0}

-- a stretch of a text: where it points, and its bytes
abbrev pub Stretch : Type 0
Stretch = (ℕ × ℕ) × List ℕ

-- the stretch of the text behind x from a to e
abbrev pub stretch : Bor (List ℕ) → ℕ → ℕ → Stretch
stretch x a e = ((x.ref_ptr.0, a + x.ref_ptr.1), take (e - a) (drop a x.now))

-- the empty stretch at the end of the text behind x
abbrev pub at_end : Bor (List ℕ) → Stretch
at_end x = stretch x (length x.now) (length x.now)

-- what was found in the step list
abbrev pub in_steps : Bor (List ℕ) → Result Line ℕ → Stretch
in_steps steps (Ok line) = stretch steps line.start line.end
in_steps steps (Err k) = at_end steps

-- what was found in the start script; the count goes on through the step list
abbrev pub in_start : Bor (List ℕ) → Bor (List ℕ) → Result Line ℕ → Stretch
in_start start steps (Ok line) = stretch start line.start line.end
in_start start steps (Err k) = in_steps steps (seek 0 (lines_of steps.now) k)

-- the numbered line, counted from 1 through the start script and on through the step list; for 0 and for a number past
-- the end the empty stretch at the end of the step list
abbrev pub numbered : Bor (List ℕ) → Bor (List ℕ) → ℕ → Stretch
numbered start steps zero = at_end steps
numbered start steps (suc k) = in_start start steps (seek 0 (lines_of start.now) k)
