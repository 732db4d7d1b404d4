-- Cues: their ranges, their order, and the one number that stands for a cue in a table. Assumes nothing.
use Rattle.std.specs.Prelude.{ℕ, ◌+◌, ◌*◌, ◌/◌, ◌%◌, ◌<◌, ◌≡◌, Bool, true, ◌&&◌, ◌⊎◌, nat_le}
use Rattle.cues.specs.declared.Cue.{Cue}

-- time in milliseconds 0 to 3,599,999, module 1 to 99, pin 1 to 32
abbrev pub in_range : ℕ → ℕ → ℕ → Bool
in_range time «module» pin =
    nat_le time 3599999 && (nat_le 1 «module» && nat_le «module» 99) && (nat_le 1 pin && nat_le pin 32)

abbrev pub InRange : Cue → Type 0
InRange c = in_range c.time c.«module» c.pin ≡ true

-- by time, then module, then pin
abbrev pub Before : Cue → Cue → Type 0
Before a b =
    (a.time < b.time)
    ⊎ ((a.time ≡ b.time) × ((a.«module» < b.«module») ⊎ ((a.«module» ≡ b.«module») × (a.pin < b.pin))))

-- the key of a cue: a number of 48 bits, of which the lower 16 are module and pin
abbrev pub key_of : Cue → ℕ
key_of c = (c.time * 256 + c.«module») * 256 + c.pin

-- the cue of a key
abbrev pub cue_of : ℕ → Cue
cue_of k = record { time = k / 65536 % 4294967296; «module» = k / 256 % 256; pin = k % 256 }

-- a number that is the key of a cue in range
pub record CueKey (k : ℕ) : Type 0 where
  pub in_range : InRange (cue_of k)
  pub is_key : key_of (cue_of k) ≡ k
