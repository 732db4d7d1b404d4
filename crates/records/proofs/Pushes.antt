-- Laws of pushing bytes behind a line: they fit, or they do not. Assumes nothing.
use Rattle.std.proofs.Common.{◌≡◌, ℕ, ◌+◌, ◌≤◌, ◌<◌, List, ◌++◌, length}
use Rattle.records.specs.Pushed.{pushed}
use borrow.Author.Tests.{le-leb, lt-leb}

pub fitting : (line bytes : List ℕ) → length line + length bytes ≤ 96 → line ++ bytes ≡ pushed line bytes
unfolding pushed
fitting line bytes h = rw (le-leb _ _ h)

pub left_out : (line bytes : List ℕ) → 96 < length line + length bytes → line ≡ pushed line bytes
unfolding pushed
left_out line bytes h = rw (lt-leb _ _ h)

pub ruleset pushed_rules = (fitting, left_out)
