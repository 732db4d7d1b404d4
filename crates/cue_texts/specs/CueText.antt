-- The line that is written for a cue. Assumes nothing.
use Rattle.std.specs.Prelude.{ℕ, List, ◌++◌}
use Rattle.digits.specs.Digits.{digits_of}
use Rattle.records.specs.Record.{field_text}
use Rattle.cues.specs.declared.Cue.{Cue}

-- `time,module,pin`: the line without its LF (10); 44 is the comma
unfoldable pub cue_body : Cue → List ℕ
cue_body c = field_text c.time 44 ++ (field_text c.«module» 44 ++ digits_of c.pin)

-- the line with its LF
unfoldable pub cue_text : Cue → List ℕ
cue_text c = field_text c.time 44 ++ (field_text c.«module» 44 ++ field_text c.pin 10)
