-- What holds of answer lines; proved in `proofs/Theorems.antt`. Assumes nothing.
use Rattle.std.specs.Prelude.{◌≡◌, ℕ, ◌+◌, ◌<◌, ◌^◌, length}
use Rattle.lines.specs.Lines.{up_to}
use Rattle.refusals.specs.declared.Refusal.TheVariants.{Blocked}
use Rattle.answers.specs.declared.Answer.{Answer}
use Rattle.answers.specs.declared.Answer.TheVariants.{Ok, Yes, No, Empty, Cue, Left, Refused}
use Rattle.answers.specs.Answer.{answer_text}

-- a number of 64 bits
abbrev pub Fits : ℕ → Type 0
Fits n = n < 2 ^ 64

-- each number of the answer has 64 bits
abbrev pub AnswerFits : Answer → Type 0
AnswerFits Ok = Unit {0}
AnswerFits Yes = Unit {0}
AnswerFits No = Unit {0}
AnswerFits Empty = Unit {0}
AnswerFits (Cue c) = Fits c.time × Fits c.«module» × Fits c.pin
AnswerFits (Left n) = Fits n
AnswerFits (Refused r) = (e : ℕ) → r ≡ Blocked e → Fits e

-- equal lines are the lines of equal answers
abbrev pub AnswersDiffer : Type 0
AnswersDiffer = (a b : Answer) → AnswerFits a → AnswerFits b → answer_text a ≡ answer_text b → a ≡ b

-- the first LF (10) of an answer's line is its last byte
abbrev pub AnswerLineOneLf : Type 0
AnswerLineOneLf = (a : Answer) → up_to 10 (answer_text a) + 1 ≡ length (answer_text a)
