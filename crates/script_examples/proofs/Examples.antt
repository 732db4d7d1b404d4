-- Worked examples of script texts, each computed. Assumes nothing.
use mathlib.Core.Path.{◌≡◌, refl}
use mathlib.Core.List.{List, [], ◌∷◌, ◌++◌, map}
use Prim.Native.Nat.{ℕ, zero, suc, ◌+◌}
use Prim.Native.String.{String}
use Rattle.std.specs.Prelude.{Result, Ok}
use Rattle.refusals.specs.declared.Refusal.TheVariants.{Malformed, CueOutOfRange, ScriptFull}
use Rattle.lines.specs.Ascii.{bytes}
use Rattle.lines.specs.Lines.{up_to, onto, lines_of}
use Rattle.digits.specs.Digits.{digits_at}
use Rattle.numbers.specs.Number.{value_from, number_of}
use Rattle.cues.specs.Cue.{key_of}
use Rattle.cue_lines.specs.CueLine.{fields_of}
use Rattle.cue_texts.specs.CueText.{cue_text}
use Rattle.tables.specs.Table.{member_of, insert_of}
use Rattle.refusals.specs.declared.RefusedText.{RefusedText}
use Rattle.scripts.specs.Script.{refused_at, read_from, script_of, script_or_empty}
use Rattle.scripts.specs.ScriptText.{text_of}

abbrev key : ℕ → ℕ → ℕ → ℕ
key time «module» pin = key_of (record { time = time; «module» = «module»; pin = pin })

abbrev accepted : List ℕ → Result (List ℕ) RefusedText
accepted t = Ok t

-- texts, and what each is read as
abbrev examples : List (String × Result (List ℕ) RefusedText)
examples =
    ("", accepted [])
    -- any order; a repeated line is kept once; the last LF may be missing
    ∷ ("1500,4,12\n1500,2,7\n", accepted (key 1500 2 7 ∷ key 1500 4 12 ∷ []))
    ∷ ("1500,4,12\n1500,2,7\n1500,4,12\n", accepted (key 1500 2 7 ∷ key 1500 4 12 ∷ []))
    ∷ ("1500,4,12\n1500,2,7", accepted (key 1500 2 7 ∷ key 1500 4 12 ∷ []))
    -- the ends of the ranges; a number past them meets 7
    ∷ ("0,1,1\n3599999,99,32\n", accepted (key 0 1 1 ∷ key 3599999 99 32 ∷ []))
    ∷ ("3600000,1,1\n", refused_at 1 CueOutOfRange)
    ∷ ("0,0,1\n", refused_at 1 CueOutOfRange)
    ∷ ("0,100,1\n", refused_at 1 CueOutOfRange)
    ∷ ("0,1,0\n", refused_at 1 CueOutOfRange)
    ∷ ("0,1,1\n0,1,33\n", refused_at 2 CueOutOfRange)
    -- 1: an empty line, a leading zero, ten digits, a CR, a space, a sign, a missing and an extra field
    ∷ ("0,1,1\n\n", refused_at 2 Malformed)
    ∷ ("05,1,1\n", refused_at 1 Malformed)
    ∷ ("1000000000,1,1\n", refused_at 1 Malformed)
    ∷ ("0,1,1\r\n", refused_at 1 Malformed)
    ∷ ("0, 1,1\n", refused_at 1 Malformed)
    ∷ ("+0,1,1\n", refused_at 1 Malformed)
    ∷ ("0,1\n", refused_at 1 Malformed)
    ∷ ("0,1,1,1\n", refused_at 1 Malformed)
    -- the first line that meets a row decides
    ∷ ("0,1,33\n\n", refused_at 1 CueOutOfRange)
    ∷ []

pub examples_read : map (λ x. script_of (bytes x.0)) examples ≡ map (λ x. x.1) examples
unfolding lines_of onto up_to value_from number_of fields_of member_of insert_of read_from script_of
examples_read = refl

-- the normal form of a text: rising order, each line with its LF
pub normal_form : text_of (script_or_empty (script_of (bytes "1500,4,12\n1500,2,7"))) ≡ bytes "1500,2,7\n1500,4,12\n"
unfolding lines_of onto up_to value_from number_of fields_of member_of insert_of read_from script_of digits_at cue_text text_of
normal_form = refl

-- n cues, a millisecond apart
abbrev cues_from : ℕ → ℕ → List ℕ
cues_from time zero = []
cues_from time (suc n) = key time 1 1 ∷ cues_from (time + 1) n

-- a full script takes a repeated line, and a 257th different cue meets 11
pub full_script_lem :
    map script_of ((text_of (cues_from 0 256) ++ bytes "0,1,1\n") ∷ text_of (cues_from 0 257) ∷ [])
    ≡ accepted (cues_from 0 256) ∷ refused_at 257 ScriptFull ∷ []
unfolding lines_of onto up_to value_from number_of fields_of member_of insert_of read_from script_of digits_at cue_text text_of
full_script_lem = refl
