-- What appending bytes to those in a lent buffer answers and leaves there. Assumes nothing.
use Rattle.std.specs.Prelude.{ℕ, List}
use Rattle.std.specs.Result.{result_unwrap_or}
use Rattle.buffers.specs.Written.{written_at}

-- the place behind the bytes, and the buffer that holds them; or the same place and the buffer as it was, where they do
-- not fit
abbrev pub appended_at : List ℕ → ℕ → List ℕ → ℕ × List ℕ
appended_at buf at bytes = (result_unwrap_or (written_at buf at bytes).0 at, (written_at buf at bytes).1)
