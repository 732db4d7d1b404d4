-- A log notes no more takes than it has entries, and so at most 16. Assumes nothing.
use Rattle.std.proofs.Common.{◌≡◌, ℕ, ◌≤◌, List, [], ◌∷◌, length, reverse, arith}
use Rattle.std.proofs.lemmas.List.{length-reverse}
use Rattle.boosting.specs.Undo.{Entry, added, removed, pushed, taken}
use Rattle.boosting.specs.Room.{takes_by}

pub takes_le : (log : List Entry) → takes_by log ≤ length log
unfolding takes_by
takes_le [] = omega arith
takes_le (added k ∷ log) = omega (arith, takes_le log)
takes_le (removed k ∷ log) = omega (arith, takes_le log)
takes_le (pushed k ∷ log) = omega (arith, takes_le log)
takes_le (taken k ∷ log) = omega (arith, takes_le log)

pub takes_fit : (n : ℕ) (log : List Entry) → n ≡ takes_by (reverse log) → length log ≤ 16 → n ≤ 16
takes_fit n log e h = omega (arith, e, h, takes_le (reverse log), length-reverse log)

pub ruleset takes_rules = (takes_le, takes_fit)
