-- A log, newest first: its newest entry and the others. Assumes nothing.
use Rattle.std.specs.Prelude.{List, [], ◌∷◌, Option, Some, None}
use Rattle.boosting.specs.Undo.{Entry}

abbrev pub newest : List Entry → Option Entry
newest [] = None
newest (n ∷ log) = Some n

abbrev pub older : List Entry → List Entry
older [] = []
older (n ∷ log) = log
