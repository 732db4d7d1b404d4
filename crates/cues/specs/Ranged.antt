-- The cue that three numbers give. Assumes nothing.
use Rattle.std.specs.Prelude.{◌≡◌, if◌then◌else◌, Result, Ok, Err}
use Rattle.refusals.specs.declared.Refusal.{Refusal}
use Rattle.refusals.specs.declared.Refusal.TheVariants.{CueOutOfRange}
use Rattle.cues.specs.declared.Cue.{Cue}
use Rattle.cues.specs.declared.CueNumbers.{CueNumbers}
use Rattle.cues.specs.Cue.{in_range}

-- the cue of the numbers where they are in range; else the row that they meet
abbrev pub ranged : CueNumbers → Result Cue Refusal
ranged n =
    if in_range n.time n.«module» n.pin
    then Ok (record { time = n.time; «module» = n.«module»; pin = n.pin })
    else Err CueOutOfRange

abbrev pub GivesCue : CueNumbers → Result Cue Refusal → Type 0
GivesCue n r = r ≡ ranged n
