use Rattle.std.proofs.Common.{drop, length, max, ◌+◌, ◌≡◌, ◌≤◌}
use Rattle.lines.specs.Lines.{up_to}
use Rattle.lines.proofs.find_byte.Given as goal

abbrev pub invariant-loop-i : goal.invariant-loop-i
invariant-loop-i l = (l.i ≤ max l.at (length l.s)) × (l.at + up_to l.sep (drop l.at l.s) ≡ l.i + up_to l.sep (drop l.i l.s))
