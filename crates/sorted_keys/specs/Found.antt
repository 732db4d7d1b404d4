-- Where a key stands in a sorted list, or would stand. Assumes nothing.
use Rattle.std.specs.Prelude.{ℕ, List, Result, Ok, Err, if◌then◌else◌}
use Rattle.tables.specs.Table.{rank_of, member_of}

abbrev pub found_of : ℕ → List ℕ → Result ℕ ℕ
found_of key keys = if member_of key keys then Ok (rank_of key keys) else Err (rank_of key keys)
