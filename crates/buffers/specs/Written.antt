-- What writing bytes into a lent buffer answers and leaves there: the promise of every writer of the desk.
-- Assumes nothing.
use Rattle.std.specs.Prelude.{ℕ, ◌+◌, if◌then◌else◌, List, ◌++◌, nat_le, length, take, drop, Result, Ok, Err}
use Rattle.refusals.specs.declared.Refusal.{Refusal}
use Rattle.refusals.specs.declared.Refusal.TheVariants.{BufferTooShort}

-- the buffer with the bytes from the place `at` on, and every other byte as it was
abbrev pub placed : List ℕ → ℕ → List ℕ → List ℕ
placed buf at bytes = take at buf ++ bytes ++ drop (at + length bytes) buf

-- the place behind the bytes, and the buffer that holds them; or 14 and the buffer as it was, where they do not fit
unfoldable pub written_at : List ℕ → ℕ → List ℕ → Result ℕ Refusal × List ℕ
written_at buf at bytes =
    if nat_le (at + length bytes) (length buf)
    then (Ok (at + length bytes), placed buf at bytes)
    else (Err BufferTooShort, buf)
