-- The entries of all logs: none of them keeps more than one slot. Assumes nothing.
use Rattle.std.specs.Prelude.{ℕ, ◌+◌, List, [], ◌∷◌, length}
use Rattle.boosting.specs.Store.{Transaction}

-- how many entries the logs have
unfoldable pub entries_in : List Transaction → ℕ
entries_in [] = 0
entries_in (t ∷ ts) = length t.log + entries_in ts
