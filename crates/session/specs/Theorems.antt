-- What holds of the program's output; proved in `proofs/Theorems.antt`. Assumes nothing.
use Rattle.std.specs.Prelude.{ℕ, ◌≤◌, ◌≡◌, List, ◌++◌, length}
use Rattle.lines.specs.Lines.{lines_of}
use Rattle.std.specs.Result.{IsOk}
use Rattle.scripts.specs.Script.{script_of, script_or_empty}
use Rattle.boosting.specs.Store.{started, opened}
use Rattle.boosting.specs.Run.{Event, run}
use Rattle.boosting.specs.Replay.{replay, replies, fed, heard}
use Rattle.inputs.specs.Division.{start_text, step_list}
use Rattle.closing_lists.specs.Closing.{closing_text}
use Rattle.session.specs.Output.{answer_lines, output_of}

-- ---- one answer line a step
abbrev pub OneLineAStep : Type 0
OneLineAStep = (script : List ℕ) (lines : List (List ℕ))
    → length (lines_of (answer_lines (opened script) lines)) ≡ length lines

-- ---- the length of the output: ten bytes for each byte of input (an empty line is answered `refused,1`), 11 and 3,584
-- for the script, 9 and 896 for the queue
abbrev pub room : ℕ
room = 659860

abbrev pub OutputFits : Type 0
OutputFits = (s : List ℕ) → length (output_of s) ≤ room

-- ---- term 3 on the bytes: the lists printed are the replay's, and so are the answers that it is fed
abbrev pub start_script : List ℕ → List ℕ
start_script s = script_or_empty (script_of (start_text s))

abbrev pub past_of : List ℕ → List Event
past_of s = (run (opened (start_script s)) (lines_of (step_list s))).past

pub record Replayed (s : List ℕ) : Type 0 where
  pub output : output_of s
      ≡ answer_lines (opened (start_script s)) (lines_of (step_list s))
      ++ closing_text (replay (started (start_script s)) (fed (past_of s)))
  pub answers : heard (past_of s) ≡ replies (started (start_script s)) (fed (past_of s))

abbrev pub ClosingIsReplay : Type 0
ClosingIsReplay = (s : List ℕ) → length s ≤ 65536 → IsOk (script_of (start_text s)) → Replayed s
