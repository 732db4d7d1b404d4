use Rattle.std.proofs.Common.{length, max, ◌≤◌}
use Rattle.numbers.proofs.FieldLaws.{Passed}
use Rattle.numbers.proofs.pass_digits.Given as goal

abbrev pub invariant-loop-i : goal.invariant-loop-i
invariant-loop-i l = (l.i ≤ max l.at (length l.s)) × Passed l.s l.at l.i l.value
