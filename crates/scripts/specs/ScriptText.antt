-- A script, written: its normal form. Assumes nothing.
use Rattle.std.specs.Prelude.{ℕ, List, [], ◌∷◌, ◌++◌}
use Rattle.cues.specs.Cue.{cue_of}
use Rattle.cue_texts.specs.CueText.{cue_text}

-- the cues in rising order, each line with its LF; an empty script is zero bytes
unfoldable pub text_of : List ℕ → List ℕ
text_of [] = []
text_of (k ∷ ks) = cue_text (cue_of k) ++ text_of ks
