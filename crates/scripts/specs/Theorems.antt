-- What holds of reading and writing scripts; proved in `proofs/Theorems.antt`. Assumes nothing.
use Rattle.std.specs.Prelude.{◌≡◌, Bool, false, ◌||◌, List, [], ◌∷◌, ◌↔◌, ℕ, ◌≤◌, nat_eq, length, Result, Ok, Err}
use Rattle.lines.specs.Lines.{lines_of}
use Rattle.cues.specs.Cue.{CueKey, key_of}
use Rattle.cue_lines.specs.CueLine.{cue_line_of}
use Rattle.refusals.specs.declared.Refusal.{Refusal}
use Rattle.cues.specs.declared.Cue.{Cue}
use Rattle.tables.specs.Table.{Ordered, member_of}
use Rattle.scripts.specs.Script.{script_of, script_or_empty}
use Rattle.scripts.specs.ScriptText.{text_of}

-- each key is that of a cue in range
abbrev pub AllCues : List ℕ → Type 0
AllCues [] = Unit {0}
AllCues (k ∷ ks) = CueKey k × AllCues ks

-- the scripts that reading and stepping bring about: strictly rising, in range, at most 256 cues
pub record SoundScript (t : List ℕ) : Type 0 where
  pub rising : Ordered 1 t
  pub in_range : AllCues t
  pub at_most : length t ≤ 256

-- every script read is sound, the empty one of a refused text too
abbrev pub ReadIsSound : Type 0
ReadIsSound = (s : List ℕ) → SoundScript (script_or_empty (script_of s))

-- a sound script, written and read, is the same script
abbrev pub WriteThenRead : Type 0
WriteThenRead = (t : List ℕ) → SoundScript t → script_of (text_of t) ≡ Ok t

-- two sound scripts have the same bytes exactly if they have the same cues
abbrev pub SameBytesSameCues : Type 0
SameBytesSameCues =
    (t u : List ℕ) → SoundScript t → SoundScript u → (text_of t ≡ text_of u) ↔ ((k : ℕ) → member_of k t ≡ member_of k u)

-- a line that stands for the cue with the key k
abbrev pub is_cue : ℕ → Result Cue Refusal → Bool
is_cue k (Ok c) = nat_eq (key_of c) k
is_cue k (Err r) = false

-- some line stands for it
unfoldable pub any_cue : ℕ → List (List ℕ) → Bool
any_cue k [] = false
any_cue k (l ∷ ls) = is_cue k (cue_line_of l) || any_cue k ls

-- the cues of an accepted text are those of its lines
abbrev pub AcceptedCues : Type 0
AcceptedCues = (s t : List ℕ) (k : ℕ) → script_of s ≡ Ok t → member_of k t ≡ any_cue k (lines_of s)

-- the longest text written from a script is 3,584 bytes
abbrev pub TextFits : Type 0
TextFits = (t : List ℕ) → SoundScript t → length (text_of t) ≤ 3584
