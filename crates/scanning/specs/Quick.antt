-- What a quick look at a line finds: the step whose text stands there. It may always find nothing, so these say only
-- what holds of what it found. Assumes nothing.
use Rattle.std.specs.Prelude.{ℕ, ◌-◌, ◌≤◌, ◌<◌, ◌≡◌, List, ◌++◌, length, slice_index, take, drop}
use Rattle.std.specs.Prelude.{Option, IfSome, IsSomeAnd}
use Rattle.steps.specs.declared.reading.Step.{Step}
use Rattle.steps.specs.StepText.{step_text, NineDigitStep}
use Rattle.scanning.specs.declared.Scanned.{Scanned}
use Rattle.scanning.specs.Scan.{Scans}

-- the bytes are the step's one line
pub record LineOf (t : List ℕ) (x : Step) : Type 0 where
  pub text : t ≡ step_text x
  pub nine : NineDigitStep x

-- what was read before and the bytes from a place up to an LF are a step's line
pub record Completes (before s : List ℕ) (at : ℕ) (r : Scanned) : Type 0 where
  pub line : IsSomeAnd r.step (λ x. LineOf (before ++ take (r.end - at) (drop at s)) x)
  pub from : at ≤ r.end
  pub within : r.end < length s
  pub lf : slice_index s r.end ≡ 10

-- a look at what stands behind the bytes read before
abbrev pub RestFits : List ℕ → List ℕ → ℕ → Option Scanned → Type 0
RestFits before s at found = IfSome found (λ r. Completes before s at r)

-- a look at a whole line
abbrev pub QuickFits : List ℕ → ℕ → Option Scanned → Type 0
QuickFits s at found = IfSome found (λ r. Scans s at r)
