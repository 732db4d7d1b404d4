-- What the program prints: one answer line a step, and after recovery the script and the queue; or why it does not
-- start. Assumes nothing.
use Rattle.std.specs.Prelude.{ℕ, if◌then◌else◌, List, [], ◌∷◌, ◌++◌, nat_lt, length, Result, Ok, Err}
use Rattle.refusals.specs.Refusal.{refusal_number}
use Rattle.refusals.specs.declared.Refusal.{Refusal}
use Rattle.refusals.specs.declared.Refusal.TheVariants.{TextTooLong}
use Rattle.lines.specs.Ascii.{bytes}
use Rattle.lines.specs.Lines.{lines_of}
use Rattle.records.specs.Record.{record_text}
use Rattle.refusals.specs.declared.RefusedText.{RefusedText}
use Rattle.scripts.specs.Script.{script_of}
use Rattle.answers.specs.Answer.{answer_text}
use Rattle.answers.specs.declared.Answer.{Answer}
use Rattle.boosting.specs.Store.{Store, opened}
use Rattle.boosting.specs.Run.{run, answers}
use Rattle.boosting.specs.Recovery.{recover, rising}
use Rattle.inputs.specs.Division.{start_text, step_list}
use Rattle.closing_lists.specs.Closing.{closing_text}

unfoldable pub answers_text : List Answer → List ℕ
answers_text [] = []
answers_text (a ∷ rest) = answer_text a ++ answers_text rest

-- one answer line a step, from a store on
abbrev pub answer_lines : Store → List (List ℕ) → List ℕ
answer_lines d lines = answers_text (answers d lines)

-- the store after all steps, recovered with rising numbers
abbrev pub recovered : Store → List (List ℕ) → Store
recovered d lines = recover (run d lines).store rising

-- the whole output of a store that is stepped through lines
unfoldable pub run_text : Store → List (List ℕ) → List ℕ
run_text d lines = answer_lines d lines ++ closing_text (recovered d lines).state

-- `start,n,line` with its LF
abbrev pub start_refused : Refusal → ℕ → List ℕ
start_refused r line = record_text (bytes "start") (refusal_number r) line

-- a refused start prints only its row and its line
abbrev pub output_with : Result (List ℕ) RefusedText → List (List ℕ) → List ℕ
output_with (Err why) lines = start_refused why.refusal why.line
output_with (Ok script) lines = run_text (opened script) lines

-- an input of more than 65,536 bytes prints only `start,13,0`
unfoldable pub output_of : List ℕ → List ℕ
output_of s =
    if nat_lt 65536 (length s) then start_refused TextTooLong 0
    else output_with (script_of (start_text s)) (lines_of (step_list s))
