-- The steps of the lines from a place of a text on: the one that is scanned there, and those behind it. Assumes
-- nothing.
use Prim.Native.Nat.{ℕ, ◌+◌, ◌-◌, ◌≤◌, ◌<◌}
use mathlib.Core.Path.{◌≡◌, refl, ap, ◌∙◌}
use mathlib.Core.List.{List, [], ◌∷◌, map}
use native.Mathlib.Omega.{arith}
use lib.ListN.{length, drop}
use Rattle.lines.specs.Lines.{up_to, lines_of}
use Rattle.lines.proofs.Laws.{lines_next, lines_end}
use Rattle.steps.specs.Step.{step_of}
use Rattle.scanning.specs.declared.Scanned.{Scanned}
use Rattle.scanning.specs.Scan.{Scans}

pub no_step_left : (s : List ℕ) (at : ℕ) → length s ≤ at → map step_of (lines_of (drop at s)) ≡ []
no_step_left s at h = ap (map step_of) (lines_end s at h)

pub step_scanned : (s : List ℕ) (at : ℕ) (r : Scanned) → at < length s → Scans s at r
    → map step_of (lines_of (drop at s)) ≡ r.step ∷ map step_of (lines_of (drop (r.end + 1) s))
step_scanned s at r h c =
    let n : r.end - at ≡ up_to 10 (drop at s) = omega (arith, c.end) in
    ap (map step_of) (lines_next s at h) ∙ rw (c.step, n, c.end) refl

pub ruleset steps_rules = (no_step_left, step_scanned)
