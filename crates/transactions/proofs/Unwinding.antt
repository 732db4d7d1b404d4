-- A transaction goes on aborting while its log has entries. Assumes nothing.
use Rattle.std.proofs.Common.{◌≡◌, ◌<◌, List, [], ◌∷◌, length, refl, arith}
use Rattle.boosting.specs.Undo.{Entry}
use Rattle.boosting.specs.Locks.{Locks}
use Rattle.boosting.specs.Store.{aborting}
use Rattle.boosting.specs.Step.{unwound}

pub unwound_some : (log : List Entry) (l : Locks) → 0 < length log
    → unwound log l ≡ record { standing = aborting; locks = l; log = log }
unwound_some [] l h = absurd (omega arith)
unwound_some (n ∷ log) l h = refl
