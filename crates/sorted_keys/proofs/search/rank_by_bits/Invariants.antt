-- The search by halves: the rank is among the places that are left.
use Rattle.std.proofs.Common.{◌<◌}
use Rattle.sorted_keys.proofs.Halves.{Around}
use Rattle.sorted_keys.proofs.search.rank_by_bits.Given as goal

abbrev pub invariant-loop-left : goal.invariant-loop-left
invariant-loop-left l = record { some : 0 < l.left; around : Around l.key l.low l.left l.keys }

abbrev pub decreases-loop-left : goal.decreases-loop-left
decreases-loop-left l = l.left
