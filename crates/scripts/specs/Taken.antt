-- What reading a line, or all of them, leaves. Assumes nothing.
use Rattle.std.specs.Prelude.{ℕ, List, Result, Ok, Err}

-- the keys that were left where all went well; or why it did not
abbrev pub taken : {E : Type 0} → Result (Unit {0}) E → List ℕ → Result (List ℕ) E
taken (Ok done) keys = Ok keys
taken (Err why) keys = Err why
