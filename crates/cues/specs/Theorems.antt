-- What holds of cues and their keys; proved in `proofs/Theorems.antt`. Assumes nothing.
use Rattle.std.specs.Prelude.{◌≡◌, ◌↔◌, ◌<◌}
use Rattle.cues.specs.declared.Cue.{Cue}
use Rattle.cues.specs.Cue.{InRange, Before, key_of, cue_of, CueKey}

-- of two cues in range, one comes before the other exactly if its key is the lower
abbrev pub KeyKeepsOrder : Type 0
KeyKeepsOrder = (a b : Cue) → InRange a → InRange b → Before a b ↔ (key_of a < key_of b)

-- two cues in range with one key are one cue
abbrev pub KeyOneToOne : Type 0
KeyOneToOne = (a b : Cue) → InRange a → InRange b → key_of a ≡ key_of b → a ≡ b

-- the key of a cue in range gives that cue back
abbrev pub KeyGivesCue : Type 0
KeyGivesCue = (c : Cue) → InRange c → cue_of (key_of c) ≡ c

-- and is the key of a cue in range
abbrev pub KeyIsCueKey : Type 0
KeyIsCueKey = (c : Cue) → InRange c → CueKey (key_of c)
