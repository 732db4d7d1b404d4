-- What holds of cue lines, read and written; proved in `proofs/Theorems.antt`. Assumes nothing.
use Rattle.std.specs.Prelude.{◌≡◌, List, ℕ, Ok}
use Rattle.cues.specs.declared.Cue.{Cue}
use Rattle.cues.specs.Cue.{InRange}
use Rattle.cue_texts.specs.CueText.{cue_body}
use Rattle.cue_lines.specs.CueLine.{cue_line_of}

-- the line of a cue in range, written and read, is the same cue
abbrev pub CueWriteThenRead : Type 0
CueWriteThenRead = (c : Cue) → InRange c → cue_line_of (cue_body c) ≡ Ok c

-- every line that is read as a cue is that cue's one written form, and the cue is in range
abbrev pub CueReadIsCanonical : Type 0
CueReadIsCanonical = (l : List ℕ) (c : Cue) → cue_line_of l ≡ Ok c → (l ≡ cue_body c) × InRange c
