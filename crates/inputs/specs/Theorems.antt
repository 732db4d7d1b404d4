-- What holds of the two parts of an input; proved in `proofs/Division.antt`. Assumes nothing.
use Rattle.std.specs.Prelude.{ℕ, ◌≡◌, if◌then◌else◌, List, [], ◌∷◌}
use Rattle.lines.specs.Lines.{lines_of}
use Rattle.inputs.specs.Division.{is_steps, start_text, step_list}

-- the lines before the first line `steps`, and those behind it; all lines and none where there is no such line
unfoldable pub before : List (List ℕ) → List (List ℕ)
before [] = []
before (l ∷ ls) = if is_steps l then [] else l ∷ before ls

unfoldable pub behind : List (List ℕ) → List (List ℕ)
behind [] = []
behind (l ∷ ls) = if is_steps l then ls else behind ls

pub record Divided (s : List ℕ) : Type 0 where
  pub start : lines_of (start_text s) ≡ before (lines_of s)
  pub steps : lines_of (step_list s) ≡ behind (lines_of s)

abbrev pub DividedAtSteps : Type 0
DividedAtSteps = (s : List ℕ) → Divided s
