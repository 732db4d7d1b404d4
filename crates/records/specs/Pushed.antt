-- Bytes pushed behind a line of at most 96: all of them, or none where they do not fit. Assumes nothing.
use Rattle.std.specs.Prelude.{ℕ, ◌+◌, if◌then◌else◌, nat_le, List, ◌++◌, length}

unfoldable pub pushed : List ℕ → List ℕ → List ℕ
pushed line bytes = if nat_le (length line + length bytes) 96 then line ++ bytes else line
