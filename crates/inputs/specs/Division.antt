-- The program's input, divided: the start script before the first line `steps`, the step list behind that line. Without
-- such a line all of the input is the start script, and there are no steps. Assumes nothing.
use Rattle.std.specs.Prelude.{ℕ, ◌+◌, Bool, if◌then◌else◌, List, [], ◌∷◌, length, take, drop}
use Rattle.lines.specs.Ascii.{bytes}
use Rattle.lines.specs.Lines.{lines_of}
use Rattle.std.specs.Str.{bytes_eq}

abbrev pub is_steps : List ℕ → Bool
is_steps l = bytes_eq l (bytes "steps")

-- where the first line `steps` begins, each line before it with its LF; behind the last line where there is none
unfoldable pub steps_place : List (List ℕ) → ℕ
steps_place [] = 0
steps_place (l ∷ ls) = if is_steps l then 0 else length l + 1 + steps_place ls

unfoldable pub start_text : List ℕ → List ℕ
start_text s = take (steps_place (lines_of s)) s

-- the line `steps` and its LF have 6 bytes
unfoldable pub step_list : List ℕ → List ℕ
step_list s = drop (steps_place (lines_of s) + 6) s
