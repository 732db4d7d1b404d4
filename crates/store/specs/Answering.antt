-- What opening and stepping answer. Assumes nothing.
use Rattle.std.specs.Prelude.{ℕ, List, Some, None, Result, Ok, Err}
use Rattle.refusals.specs.declared.RefusedText.{RefusedText}
use Rattle.boosting.specs.Object.{State, Reply, reply, is_ok}
use Rattle.boosting.specs.Rows.{Action, begin, commit, abort, roll_back, call}

-- an accepted text has no more to say; a refused one the row that it meets, and the line
abbrev pub opening : Result (List ℕ) RefusedText → Result Unit RefusedText
opening (Ok script) = Ok tt
opening (Err why) = Err why

-- what a call would be answered by the object; the other actions do not ask it
abbrev pub foretold : Action → State → Reply
foretold begin s = is_ok
foretold commit s = is_ok
foretold abort s = is_ok
foretold roll_back s = is_ok
foretold (call None) s = is_ok
foretold (call (Some c)) s = reply c s
