-- Recovery: every unclosed transaction undone, newest entry first, and closed; transaction by transaction, in whatever
-- order of their numbers. It is made of steps: an `undo`, which an aborting transaction refuses, then `back` until it
-- closes. Assumes nothing.
use Rattle.std.specs.Prelude.{ℕ, zero, suc, List, [], ◌∷◌, length}
use Rattle.boosting.specs.Store.{Store, transaction}
use Rattle.boosting.specs.Rows.{request, abort, roll_back}
use Rattle.boosting.specs.Step.{step_on}

-- so many rollback steps
unfoldable pub roll_backs : ℕ → Store → ℕ → Store
roll_backs zero d e = d
roll_backs (suc n) d e = roll_backs n (step_on d (request e roll_back)).store e

-- as many as it has entries, or one if it has none, close it; one more is refused and changes nothing
unfoldable pub recover_one : Store → ℕ → Store
recover_one d e = roll_backs (suc (length (transaction d e).log)) (step_on d (request e abort)).store e

unfoldable pub recover : Store → List ℕ → Store
recover d [] = d
recover d (e ∷ es) = recover (recover_one d e) es

-- the program's order
unfoldable pub rising : List ℕ
rising = 1 ∷ 2 ∷ 3 ∷ 4 ∷ 5 ∷ 6 ∷ 7 ∷ 8 ∷ []
