-- A script text, read: the cues of its lines, or the row that it meets. Cues are held by their keys. Assumes nothing.
use Rattle.std.specs.Prelude.{ℕ, ◌+◌, if◌then◌else◌, List, [], ◌∷◌, nat_lt, length, Result, Ok, Err}
use Rattle.refusals.specs.declared.Refusal.{Refusal}
use Rattle.refusals.specs.declared.Refusal.TheVariants.{ScriptFull, TextTooLong}
use Rattle.refusals.specs.declared.RefusedText.{RefusedText}
use Rattle.lines.specs.Lines.{lines_of}
use Rattle.cues.specs.Cue.{key_of}
use Rattle.cues.specs.declared.Cue.{Cue}
use Rattle.cue_lines.specs.CueLine.{cue_line_of}
use Rattle.tables.specs.Table.{member_of, insert_of}

-- what one more cue does to those read so far: a repeated cue is kept once; a 257th different cue meets 11
abbrev pub by_key : List ℕ → ℕ → Result (List ℕ) Refusal
by_key t k = if member_of k t then Ok t else if nat_lt (length t) 256 then Ok (insert_of k t) else Err ScriptFull

-- what one more line does; 1 and 7 come first
abbrev pub by_line : List ℕ → Result Cue Refusal → Result (List ℕ) Refusal
by_line t (Err r) = Err r
by_line t (Ok c) = by_key t (key_of c)

-- the text is refused at line n
abbrev pub refused_at : ℕ → Refusal → Result (List ℕ) RefusedText
refused_at n r = Err (record { refusal = r; line = n })

-- on to the next line; or the refusal and the line's number
abbrev pub onward : ℕ → Result (List ℕ) Refusal → (List ℕ → Result (List ℕ) RefusedText) → Result (List ℕ) RefusedText
onward n (Ok t) more = more t
onward n (Err r) more = refused_at n r

-- the lines from number n on
unfoldable pub read_from : ℕ → List ℕ → List (List ℕ) → Result (List ℕ) RefusedText
read_from n t [] = Ok t
read_from n t (l ∷ ls) = onward n (by_line t (cue_line_of l)) (λ u. read_from (n + 1) u ls)

-- more than 65,536 bytes meet 13 with line 0 before anything else; then the first line that meets a row decides
unfoldable pub script_of : List ℕ → Result (List ℕ) RefusedText
script_of s = if nat_lt 65536 (length s) then refused_at 0 TextTooLong else read_from 1 [] (lines_of s)

-- what a text opens: its script, or the empty one where it is refused
abbrev pub script_or_empty : Result (List ℕ) RefusedText → List ℕ
script_or_empty (Ok t) = t
script_or_empty (Err why) = []
