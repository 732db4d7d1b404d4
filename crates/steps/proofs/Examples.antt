-- Step lines, computed: each of the ten steps, and each way to be malformed. Assumes nothing.
use mathlib.Core.Path.{◌≡◌, refl}
use mathlib.Core.List.{List, [], ◌∷◌, map}
use Prim.Native.Nat.{ℕ}
use Prim.Native.String.{String}
use Rattle.std.specs.Prelude.{Option, Some, None, codes}
use Rattle.lines.specs.Lines.{up_to}
use Rattle.numbers.specs.Number.{value_from, number_of}
use Rattle.cue_lines.specs.CueLine.{fields_of}
use Rattle.cues.specs.declared.CueNumbers.{CueNumbers}
use Rattle.steps.specs.declared.reading.Step.{Step}
use Rattle.steps.specs.declared.reading.Step.TheVariants.{WithNumber, WithCue}
use Rattle.step_words.specs.declared.NumberWord.TheVariants.{Begin, Min, Take, Commit, Undo, Back}
use Rattle.step_words.specs.declared.CueWord.TheVariants.{Add, Remove, Has, Push}
use Rattle.step_words.specs.Word.{word_of}
use Rattle.steps.specs.Step.{step_of}

abbrev cue : ℕ → ℕ → ℕ → CueNumbers
cue t m p = record { time = t; «module» = m; pin = p }

-- a line without its LF, and the step that it stands for
abbrev pub steps : List (String × Option Step)
steps =
    ("begin,1", Some (WithNumber Begin 1))
    ∷ ("add,1,1500,2,9", Some (WithCue Add 1 (cue 1500 2 9)))
    ∷ ("remove,2,1500,4,12", Some (WithCue Remove 2 (cue 1500 4 12)))
    ∷ ("has,1,0,1,1", Some (WithCue Has 1 (cue 0 1 1)))
    ∷ ("push,2,900,1,1", Some (WithCue Push 2 (cue 900 1 1)))
    ∷ ("min,2", Some (WithNumber Min 2))
    ∷ ("take,1", Some (WithNumber Take 1))
    ∷ ("commit,1", Some (WithNumber Commit 1))
    ∷ ("undo,2", Some (WithNumber Undo 2))
    ∷ ("back,2", Some (WithNumber Back 2))
    -- numbers out of range are read as they stand: rows 2 and 7 are asked later
    ∷ ("begin,9", Some (WithNumber Begin 9))
    ∷ ("add,1,0,1,33", Some (WithCue Add 1 (cue 0 1 33)))
    ∷ ("add,9,0,1,0", Some (WithCue Add 9 (cue 0 1 0)))
    ∷ ("has,0,999999999,999999999,999999999", Some (WithCue Has 0 (cue 999999999 999999999 999999999)))
    -- an empty line, a CR, a space, a sign, a leading zero, ten digits, an empty field
    ∷ ("", None)
    ∷ ("begin,1\r", None)
    ∷ ("begin, 1", None)
    ∷ (" begin,1", None)
    ∷ ("begin,+1", None)
    ∷ ("add,1,-1,1,1", None)
    ∷ ("add,1,05,1,1", None)
    ∷ ("add,01,5,1,1", None)
    ∷ ("min,1000000000", None)
    ∷ ("add,1000000000,0,1,1", None)
    ∷ ("add,1,,1,1", None)
    ∷ ("add,1,0,1,", None)
    -- a missing field, an extra field
    ∷ ("begin", None)
    ∷ ("begin,", None)
    ∷ ("begin,1,", None)
    ∷ ("begin,1,2", None)
    ∷ ("add,1", None)
    ∷ ("add,0,1,1", None)
    ∷ ("add,1,0,1,1,1", None)
    ∷ ("min,1,0,1,1", None)
    -- an unknown word, a capital letter, no word, part of a word, more than a word, a cue line
    ∷ ("look,1", None)
    ∷ ("Begin,1", None)
    ∷ ("ADD,1,0,1,1", None)
    ∷ (",1", None)
    ∷ ("beg,1", None)
    ∷ ("begins,1", None)
    ∷ ("1500,2,9", None)
    ∷ []

-- each line stands for the step beside it
pub steps_hold : map (λ x. step_of (codes x.0)) steps ≡ map (λ x. x.1) steps
unfolding up_to value_from number_of fields_of word_of
steps_hold = refl
