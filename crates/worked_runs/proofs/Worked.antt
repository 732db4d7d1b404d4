-- The worked steps of the rules, each computed. Assumes nothing.
use mathlib.Core.Path.{refl}
use Rattle.lines.specs.Lines.{up_to, onto, lines_of}
use Rattle.digits.specs.Digits.{digits_at}
use Rattle.numbers.specs.Number.{value_from, number_of}
use Rattle.records.specs.Record.{record_text}
use Rattle.cue_lines.specs.CueLine.{fields_of}
use Rattle.cue_texts.specs.CueText.{cue_text}
use Rattle.tables.specs.Table.{member_of, insert_of, delete_of, put_once_of}
use Rattle.scripts.specs.Script.{read_from, script_of}
use Rattle.scripts.specs.ScriptText.{text_of}
use Rattle.step_words.specs.Word.{word_of}
use Rattle.answers.specs.Answer.{refusal_text}
use Rattle.boosting.specs.Object.{effect, reply}
use Rattle.boosting.specs.Undo.{entry_of, inverse}
use Rattle.boosting.specs.Locks.{lock_of, no_locks, hold, conflicts}
use Rattle.boosting.specs.Store.{closed_transaction, open_transaction, started, opened, transaction, put, blocker}
use Rattle.boosting.specs.Room.{reserved_by, reserved_in, takes_by, takes_in}
use Rattle.boosting.specs.Rows.{first_met, refusal_of}
use Rattle.boosting.specs.Step.{accept, perform, step_on, step_line}
use Rattle.boosting.specs.Run.{advance, run_from}
use Rattle.boosting.specs.Recovery.{roll_backs, recover_one, recover, rising}
use Rattle.worked_runs.specs.Worked.{WorkedLines, WorkedRun, WorkedUnmarked}

computed : WorkedLines × WorkedRun × WorkedUnmarked
unfolding up_to onto lines_of digits_at value_from number_of record_text fields_of cue_text member_of insert_of delete_of
    put_once_of read_from script_of text_of word_of refusal_text effect reply entry_of inverse lock_of no_locks
    hold conflicts closed_transaction open_transaction started opened transaction put blocker reserved_by
    reserved_in takes_by takes_in first_met refusal_of accept perform step_on step_line advance run_from roll_backs
    recover_one recover rising
computed = (refl, refl, refl)

pub worked_lines : WorkedLines
worked_lines = computed.0

pub worked_run_lem : WorkedRun
worked_run_lem = computed.1

pub worked_unmarked : WorkedUnmarked
worked_unmarked = computed.2
