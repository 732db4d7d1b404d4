-- Whole inputs and outputs of the program, computed: the printed run, and one for each odd shape of an input.
-- Assumes nothing.
use Prim.Native.Nat.{ℕ}
use mathlib.Core.Path.{◌≡◌, refl}
use mathlib.Core.List.{List, [], ◌∷◌, ◌++◌, map}
use Rattle.lines.specs.Ascii.{bytes}
use Rattle.lines.specs.Lines.{up_to, onto, lines_of}
use Rattle.digits.specs.Digits.{digits_at}
use Rattle.numbers.specs.Number.{value_from, number_of}
use Rattle.records.specs.Record.{record_text}
use Rattle.cue_lines.specs.CueLine.{fields_of}
use Rattle.cue_texts.specs.CueText.{cue_text}
use Rattle.tables.specs.Table.{member_of, insert_of, delete_of, put_once_of}
use Rattle.scripts.specs.Script.{read_from, script_of}
use Rattle.scripts.specs.ScriptText.{text_of}
use Rattle.step_words.specs.Word.{word_of}
use Rattle.answers.specs.Answer.{refusal_text}
use Rattle.boosting.specs.Object.{effect, reply}
use Rattle.boosting.specs.Undo.{entry_of, inverse}
use Rattle.boosting.specs.Locks.{lock_of, no_locks, hold, conflicts}
use Rattle.boosting.specs.Store.{closed_transaction, open_transaction, started, opened, transaction, put, blocker}
use Rattle.boosting.specs.Room.{reserved_by, reserved_in, takes_by, takes_in}
use Rattle.boosting.specs.Rows.{first_met, refusal_of}
use Rattle.boosting.specs.Step.{accept, perform, step_on, step_line}
use Rattle.boosting.specs.Run.{advance, run_from}
use Rattle.boosting.specs.Recovery.{roll_backs, recover_one, recover, rising}
use Rattle.inputs.specs.Division.{steps_place, start_text, step_list}
use Rattle.closing_lists.specs.Closing.{closing_text}
use Rattle.session.specs.Output.{answers_text, run_text, output_of}

-- an input, and its output
abbrev pub examples : List (List ℕ × List ℕ)
examples =
    -- the printed run
    (
      bytes "1500,4,12\n1500,2,7\nsteps\nbegin,1\nbegin,2\nadd,1,1500,2,9\nadd,2,1500,2,9\npush,2,900,1,1\n"
          ++ bytes "push,1,900,1,1\nremove,2,1500,4,12\ncommit,1\nmin,2\nundo,2\nback,2\n",
      bytes "ok\nok\nyes\nrefused,8,1\nok\nok\nyes\nok\ncue,900,1,1\nok\nleft,1\n"
          ++ bytes "script,3\n1500,2,7\n1500,2,9\n1500,4,12\nqueue,1\n900,1,1\n",
    )
    -- nothing at all; a start script alone; the dividing line alone, without its LF
    ∷ (bytes "", bytes "script,0\nqueue,0\n")
    ∷ (bytes "0,1,1", bytes "script,1\n0,1,1\nqueue,0\n")
    ∷ (bytes "steps", bytes "script,0\nqueue,0\n")
    -- the first line `steps` counts; a later one is a step, and an empty line is one too
    ∷ (bytes "steps\nsteps\n\nbegin,1", bytes "refused,1\nrefused,1\nok\nscript,0\nqueue,0\n")
    -- a refused start prints only that
    ∷ (bytes "0,1,1\n0,1,33\nsteps\nbegin,1\n", bytes "start,7,2\n")
    ∷ (bytes "Steps\nbegin,1\n", bytes "start,1,1\n")
    ∷ []

pub examples_hold :
    map (λ (e : List ℕ × List ℕ). output_of e.0) examples ≡ map (λ (e : List ℕ × List ℕ). e.1) examples
unfolding up_to onto lines_of digits_at value_from number_of record_text fields_of cue_text member_of insert_of delete_of
    put_once_of read_from script_of text_of word_of refusal_text effect reply entry_of inverse lock_of no_locks
    hold conflicts closed_transaction open_transaction started opened transaction put blocker reserved_by
    reserved_in takes_by takes_in first_met refusal_of accept perform step_on step_line advance run_from roll_backs
    recover_one recover rising steps_place start_text step_list answers_text closing_text run_text output_of
examples_hold = refl
