-- The theorems of `specs/Theorems.antt`, each from the file that proves it. Assumes nothing.
pub use Rattle.boosting.proofs.Refusals.{refusals_change_nothing, rows_decide, malformed_exactly, accepted_exactly}
pub use Rattle.boosting.proofs.StepTable.{step_table_holds}
pub use Rattle.boosting.proofs.Boosting.{blocked_exactly, accepted_calls_do}
pub use Rattle.boosting.proofs.Plain.{plain_meaning, calls_are_plain}
pub use Rattle.boosting.proofs.Term3.{term_3, term_3_rising}
pub use Rattle.boosting.proofs.Sound.{opened_is_sound, stepping_keeps_sound, run_keeps_sound, recovery_keeps_sound}
pub use Rattle.boosting.proofs.Sound.{sound_has_room, aborting_unwinds}
pub use Rattle.boosting.proofs.Listing.{listing_once}
