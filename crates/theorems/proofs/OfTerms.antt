-- The proofs of the terms, of what stepping keeps, and of the runs. Assumes nothing.
use Rattle.boosting.proofs.Acceptance.{
  lock_for_no_and_empty,
  locks_until_the_last_back,
  slot_until_its_edit_closes,
  undo_newest_first,
  no_refused_call_in_the_replay,
  commits_in_order,
  begin_is_a_new_edit,
  cue_locks_24,
  undo_entries_16,
  queue_slots_64,
  answers_alone,
  mode_listed_once,
}
use Rattle.boosting.proofs.Boosting.{blocked_exactly, accepted_calls_do}
use Rattle.boosting.proofs.Plain.{plain_meaning, calls_are_plain}
use Rattle.boosting.proofs.Refusals.{refusals_change_nothing, rows_decide, malformed_exactly, accepted_exactly}
use Rattle.boosting.proofs.Sound.{
  opened_is_sound,
  stepping_keeps_sound,
  run_keeps_sound,
  recovery_keeps_sound,
  sound_has_room,
  aborting_unwinds,
}
use Rattle.boosting.proofs.StepTable.{step_table_holds}
use Rattle.boosting.proofs.Term3.{term_3, term_3_rising}

pub ruleset of_rows = (rows_decide, malformed_exactly, accepted_exactly, refusals_change_nothing)

pub ruleset of_waiting = (blocked_exactly)

pub ruleset of_calls = (accepted_calls_do, step_table_holds, aborting_unwinds)

pub ruleset of_plain_operations = (plain_meaning, calls_are_plain)

pub ruleset of_term_3 = (term_3, term_3_rising)

pub ruleset of_soundness = (opened_is_sound, stepping_keeps_sound, run_keeps_sound, recovery_keeps_sound, sound_has_room)

pub ruleset of_acceptance = (
  lock_for_no_and_empty,
  locks_until_the_last_back,
  slot_until_its_edit_closes,
  undo_newest_first,
  no_refused_call_in_the_replay,
  commits_in_order,
  begin_is_a_new_edit,
  cue_locks_24,
  undo_entries_16,
  queue_slots_64,
  answers_alone,
  mode_listed_once,
)
