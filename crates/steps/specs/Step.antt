-- The step that a line stands for: the first column of the table of steps (docs/RULES.md, 5).
-- The number e of an edit is the transaction's number.
-- A line that has not one of these forms is no step: it is malformed.
-- Assumes nothing.
use Rattle.std.specs.Prelude.{ℕ, List, Option, Some, None}
use Rattle.std.specs.Option.{option_and_then}
use Rattle.numbers.specs.Number.{number_of}
use Rattle.numbers.specs.Field.{field, others}
use Rattle.cue_lines.specs.CueLine.{fields_of}
use Rattle.cues.specs.declared.CueNumbers.{CueNumbers}
use Rattle.step_words.specs.Word.{word_of}
use Rattle.step_words.specs.declared.NumberWord.{NumberWord}
use Rattle.step_words.specs.declared.CueWord.{CueWord}
use Rattle.step_words.specs.declared.Word.{Word}
use Rattle.step_words.specs.declared.Word.TheVariants.{WithNumber as of_number, WithCue as of_cue}
use Rattle.steps.specs.declared.reading.Step.{Step}
use Rattle.steps.specs.declared.reading.Step.TheVariants.{WithNumber, WithCue}

-- `word,e`: `e` has to be a number
abbrev pub numbered : NumberWord → Option ℕ → Option Step
numbered w (Some e) = Some (WithNumber w e)
numbered w None = None

-- `word,e,t,m,p`: and `t,m,p` three of them
abbrev pub cued : CueWord → Option ℕ → Option CueNumbers → Option Step
cued w (Some e) (Some cue) = Some (WithCue w e cue)
cued w (Some e) None = None
cued w None cue = None

-- the word, and what stands behind its comma
abbrev pub step_with : Word → List ℕ → Option Step
step_with (of_number w) rest = numbered w (number_of rest)
step_with (of_cue w) rest = cued w (number_of (field rest)) (fields_of (others rest))

-- the step of a line without its LF
abbrev pub step_of : List ℕ → Option Step
step_of l = option_and_then (λ word. step_with word (others l)) (word_of (field l))
