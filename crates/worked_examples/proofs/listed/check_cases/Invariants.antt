-- Of the cases met, at most one for each byte passed, some are right.
use Rattle.std.proofs.Common.{length, ◌+◌, ◌≤◌}
use Rattle.worked_examples.proofs.listed.check_cases.Given as goal

abbrev pub invariant-loop-case : goal.invariant-loop-case
invariant-loop-case g l = (l.right ≤ l.met) × (l.met + length l.case-iterator.0.now ≤ length l.text)
