-- The proofs of the theorems about the program. Assumes nothing.
use Rattle.boosting.proofs.Listing.{listing_once}
use Rattle.inputs.proofs.Division.{divided_at_steps}
use Rattle.lock_listing.proofs.Theorems.{length_of_every_order, lines_once, listing_short}
use Rattle.session.proofs.Fitting.{output_fits}
use Rattle.session.proofs.Theorems.{one_line_a_step, closing_is_replay}
use Rattle.worked_runs.proofs.Worked.{worked_lines, worked_run_lem, worked_unmarked}

pub ruleset of_inputs = (divided_at_steps)

pub ruleset of_output = (one_line_a_step, output_fits, closing_is_replay)

pub ruleset of_lock_sheet = (listing_once, lines_once, length_of_every_order, listing_short)

pub ruleset of_worked_runs = (worked_lines, worked_run_lem, worked_unmarked)
