-- The cases that are no plain text. Assumes nothing.
use Rattle.std.specs.Prelude.{ℕ, ◌≡◌, List, replicate, Result, IsErrAnd}
use Rattle.refusals.specs.declared.Refusal.TheVariants.{BufferTooShort}
use Rattle.refusals.specs.declared.RefusedText.{RefusedText}

-- an input of one byte more than an input may have, each an `x` (120)
abbrev pub too_long : List ℕ
too_long = replicate 65537 120

-- the formatter's answer is 14, and the buffer stays as it was
abbrev pub IsTooShort : List ℕ → Result ℕ RefusedText × List ℕ → Type 0
IsTooShort buf formatted = IsErrAnd formatted.0 (λ refused. refused.refusal ≡ BufferTooShort) × (formatted.1 ≡ buf)
