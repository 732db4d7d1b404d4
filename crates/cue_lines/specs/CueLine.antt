-- The cue that a line stands for. Assumes nothing.
use Rattle.std.specs.Prelude.{ℕ, List, Option, Some, None, Result, Err}
use Rattle.refusals.specs.declared.Refusal.{Refusal}
use Rattle.refusals.specs.declared.Refusal.TheVariants.{Malformed}
use Rattle.numbers.specs.Field.{field, others}
use Rattle.numbers.specs.Number.{number_of}
use Rattle.cues.specs.declared.Cue.{Cue}
use Rattle.cues.specs.declared.CueNumbers.{CueNumbers}
use Rattle.cues.specs.Ranged.{ranged}

-- the numbers of a cue, where all three are there
abbrev pub three_numbers : Option ℕ → Option ℕ → Option ℕ → Option CueNumbers
three_numbers (Some t) (Some m) (Some p) = Some (record { time = t; «module» = m; pin = p })
three_numbers (Some t) (Some m) None = None
three_numbers (Some t) None z = None
three_numbers None y z = None

-- `time,module,pin`: three numbers between two commas
unfoldable pub fields_of : List ℕ → Option CueNumbers
fields_of l = three_numbers (number_of (field l)) (number_of (field (others l))) (number_of (others (others l)))

-- the cue of numbers that were read; a line without them is malformed
abbrev pub cue_of_fields : Option CueNumbers → Result Cue Refusal
cue_of_fields None = Err Malformed
cue_of_fields (Some numbers) = ranged numbers

-- malformed is tried first, then the range
abbrev pub cue_line_of : List ℕ → Result Cue Refusal
cue_line_of l = cue_of_fields (fields_of l)
