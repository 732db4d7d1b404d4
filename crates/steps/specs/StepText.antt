-- The one line of each step, without its LF. Assumes nothing.
use Rattle.std.specs.Prelude.{ℕ, ◌<◌, List, ◌∷◌, ◌++◌}
use Rattle.digits.specs.Digits.{digits_of}
use Rattle.records.specs.Record.{field_text}
use Rattle.cues.specs.declared.CueNumbers.{CueNumbers}
use Rattle.steps.specs.declared.reading.Step.{Step}
use Rattle.steps.specs.declared.reading.Step.TheVariants.{WithNumber, WithCue}
use Rattle.step_words.specs.Word.{number_word, cue_word}

-- `e,t,m,p`; 44 is the comma
unfoldable pub call_text : ℕ → CueNumbers → List ℕ
call_text e c = field_text e 44 ++ (field_text c.time 44 ++ (field_text c.«module» 44 ++ digits_of c.pin))

-- `word,e` and `word,e,t,m,p`
abbrev pub step_text : Step → List ℕ
step_text (WithNumber w e) = number_word w ++ 44 ∷ digits_of e
step_text (WithCue w e c) = cue_word w ++ 44 ∷ call_text e c

-- numbers of at most nine digits
abbrev pub NineDigits : ℕ → Type 0
NineDigits n = n < 1000000000

pub record NineDigitCall (e : ℕ) (c : CueNumbers) : Type 0 where
  pub transaction : NineDigits e
  pub time : NineDigits c.time
  pub «module» : NineDigits c.«module»
  pub pin : NineDigits c.pin

abbrev pub NineDigitStep : Step → Type 0
NineDigitStep (WithNumber w e) = NineDigits e
NineDigitStep (WithCue w e c) = NineDigitCall e c
