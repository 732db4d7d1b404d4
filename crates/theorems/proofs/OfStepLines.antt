-- The proofs of the theorems about step lines and answers. Assumes nothing.
use Rattle.answers.proofs.Theorems.{answers_differ, answer_line_one_lf}
use Rattle.steps.proofs.Theorems.{step_write_then_read, empty_line_is_no_step, step_read_is_canonical}

pub ruleset of_steps = (step_write_then_read, empty_line_is_no_step, step_read_is_canonical)

pub ruleset of_answers = (answers_differ, answer_line_one_lf)
