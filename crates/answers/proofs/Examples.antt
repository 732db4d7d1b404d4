-- Answer lines, computed: each kind of answer. Assumes nothing.
use mathlib.Core.Path.{◌≡◌, refl}
use mathlib.Core.List.{List, [], ◌∷◌, map}
use Prim.Native.String.{String}
use Rattle.lines.specs.Ascii.{bytes}
use Rattle.digits.specs.Digits.{digits_at}
use Rattle.records.specs.Record.{record_text}
use Rattle.refusals.specs.declared.Refusal.TheVariants.{
  Malformed,
  TransactionOutOfRange,
  Blocked,
  QueueFull,
  BufferTooShort,
}
use Rattle.cue_texts.specs.CueText.{cue_text}
use Rattle.answers.specs.declared.Answer.{Answer}
use Rattle.answers.specs.declared.Answer.TheVariants.{Ok, Yes, No, Empty, Cue, Left, Refused}
use Rattle.answers.specs.Answer.{refusal_text, answer_text}

-- an answer, and its line
abbrev pub answers : List (Answer × String)
answers =
    (Ok, "ok\n")
    ∷ (Yes, "yes\n")
    ∷ (No, "no\n")
    ∷ (Empty, "empty\n")
    ∷ (Cue (record { time = 900; «module» = 1; pin = 1 }), "cue,900,1,1\n")
    ∷ (Left 1, "left,1\n")
    ∷ (Left 0, "left,0\n")
    ∷ (Left 16, "left,16\n")
    ∷ (Refused Malformed, "refused,1\n")
    ∷ (Refused TransactionOutOfRange, "refused,2\n")
    ∷ (Refused (Blocked 1), "refused,8,1\n")
    ∷ (Refused QueueFull, "refused,12\n")
    ∷ (Refused BufferTooShort, "refused,14\n")
    ∷ []

-- each answer prints the line beside it
pub answers_hold : map (λ x. answer_text x.0) answers ≡ map (λ x. bytes x.1) answers
unfolding digits_at record_text cue_text refusal_text
answers_hold = refl
