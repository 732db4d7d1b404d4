-- The step at a place of a text: that of the line from the place up to the next LF (10), or to the end of the text.
-- At or past the end that line is empty, and no step. Assumes nothing.
use Rattle.std.specs.Prelude.{ℕ, ◌+◌, ◌-◌, ◌≤◌, max, ◌≡◌, List, length, take, drop}
use Rattle.lines.specs.Lines.{up_to}
use Rattle.steps.specs.Step.{step_of}
use Rattle.scanning.specs.declared.Scanned.{Scanned}

pub record Scans (s : List ℕ) (at : ℕ) (r : Scanned) : Type 0 where
  pub end : r.end ≡ at + up_to 10 (drop at s)
  pub step : r.step ≡ step_of (take (r.end - at) (drop at s))
  -- the bound that a caller's index needs
  pub within : r.end ≤ max at (length s)
