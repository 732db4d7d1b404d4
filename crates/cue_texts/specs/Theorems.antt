-- What holds of the text of a cue; proved in `proofs/Theorems.antt`. Assumes nothing.
use Rattle.std.specs.Prelude.{◌≡◌, [], ◌∷◌, ◌++◌, ◌≤◌, length}
use Rattle.lines.specs.Lines.{up_to}
use Rattle.cues.specs.declared.Cue.{Cue}
use Rattle.cues.specs.Cue.{InRange}
use Rattle.cue_texts.specs.CueText.{cue_body, cue_text}

-- the written line is its body and one LF (10)
abbrev pub BodyThenLf : Type 0
BodyThenLf = (c : Cue) → cue_text c ≡ cue_body c ++ (10 ∷ [])

-- the line of a cue in range has at most 14 bytes
abbrev pub CueLineShort : Type 0
CueLineShort = (c : Cue) → InRange c → length (cue_text c) ≤ 14

-- and there is no LF (10) before its end
abbrev pub CueLineNoLf : Type 0
CueLineNoLf = (c : Cue) → up_to 10 (cue_body c) ≡ length (cue_body c)
