-- Cue lines and what they stand for, computed: the limits of each range, and each way to be malformed.
-- Assumes nothing.
use mathlib.Core.Path.{◌≡◌, refl}
use mathlib.Core.List.{List, [], ◌∷◌, map}
use Prim.Native.Nat.{ℕ}
use Rattle.std.specs.Prelude.{Result, Ok, Err}
use Rattle.lines.specs.Ascii.{bytes}
use Rattle.lines.specs.Lines.{up_to}
use Rattle.numbers.specs.Number.{value_from, number_of}
use Rattle.refusals.specs.declared.Refusal.TheVariants.{CueOutOfRange, Malformed}
use Rattle.refusals.specs.declared.Refusal.{Refusal}
use Rattle.cues.specs.declared.Cue.{Cue}
use Rattle.cue_lines.specs.CueLine.{fields_of, cue_line_of}

abbrev cue : ℕ → ℕ → ℕ → Result Cue Refusal
cue t m p = Ok (record { time = t; «module» = m; pin = p })

abbrev out_of_range : Result Cue Refusal
out_of_range = Err CueOutOfRange

abbrev malformed : Result Cue Refusal
malformed = Err Malformed

-- a line, and what it stands for
abbrev pub examples : List (List ℕ × Result Cue Refusal)
examples =
    (bytes "3599999,99,32", cue 3599999 99 32)
    ∷ (bytes "0,1,1", cue 0 1 1)
    ∷ (bytes "3600000,1,1", out_of_range)
    ∷ (bytes "0,0,1", out_of_range)
    ∷ (bytes "0,100,1", out_of_range)
    ∷ (bytes "0,1,0", out_of_range)
    ∷ (bytes "0,1,33", out_of_range)
    ∷ (bytes "999999999,1,1", out_of_range)
    ∷ (bytes "05,1,1", malformed)
    ∷ (bytes "0,1", malformed)
    ∷ (bytes "0,1,1,1", malformed)
    ∷ (bytes "", malformed)
    ∷ (bytes "0,1,1\r", malformed)
    ∷ (bytes "0, 1,1", malformed)
    ∷ (bytes "+0,1,1", malformed)
    ∷ (bytes "0,,1", malformed)
    ∷ (bytes "0,1,", malformed)
    ∷ (bytes "1000000000,1,1", malformed)
    ∷ []

-- each line stands for what is beside it
pub examples_hold : map (λ (e : List ℕ × Result Cue Refusal). cue_line_of e.0) examples
    ≡ map (λ (e : List ℕ × Result Cue Refusal). e.1) examples
unfolding up_to value_from number_of fields_of
examples_hold = refl
