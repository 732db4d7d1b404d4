-- At or past the end of a text there is an empty line. Assumes nothing.
use Prim.Native.Nat.{ℕ, ◌-◌, ◌≤◌}
use mathlib.Core.Path.{◌≡◌, refl}
use mathlib.Core.List.{List, []}
use native.Mathlib.Omega.{arith}
use lib.ListN.{length}
use Rattle.lines.specs.Lines.{up_to}
use Rattle.lines.proofs.Laws.{up_end}
use Rattle.std.specs.Prelude.{None}
use Rattle.steps.specs.Step.{step_of}
use Rattle.steps.proofs.Steps.{no_fields}
use Rattle.scanning.specs.Scan.{Scans}

nothing_read : None ≡ step_of []
unfolding up_to
nothing_read = no_fields [] refl

pub past_the_end : (s : List ℕ) (at : ℕ) → length s ≤ at → Scans s at (record { step = None; end = at })
past_the_end s at h =
    let z : at - at ≡ 0 = omega arith in
    record {
      end = omega (arith, up_end 10 s at h);
      step = rw z nothing_read;
      within = omega arith;
    }
