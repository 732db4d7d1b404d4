-- A writer's answer as one number, for callers in other languages. Assumes nothing.
use Rattle.std.specs.Prelude.{ℕ, ◌+◌, List, Result, Ok, Err}
use Rattle.refusals.specs.Refusal.{refusal_number}
use Rattle.buffers.specs.Written.{written_at}
use Rattle.refusals.specs.declared.Refusal.{Refusal}

-- how many bytes were written, or the refusal's number above 2^32
abbrev pub answer_number : Result ℕ Refusal → ℕ
answer_number (Ok n) = n
answer_number (Err r) = 4294967296 + refusal_number r

-- a text written to the front of a buffer: the answer's number, and the buffer behind it
abbrev pub exported : List ℕ → List ℕ → ℕ × List ℕ
exported text buf = (answer_number (written_at buf 0 text).0, (written_at buf 0 text).1)
