-- In each case there is room for all that is printed.
use Rattle.session.proofs.Outcomes.{output_room, part_prints}
use Rattle.session.proofs.running.play.Goals as goal

pub run_steps-requires-clause-room : goal.run_steps-requires-clause-room
run_steps-requires-clause-room c = output_room _ _ _ _ c.requires.kept (part_prints _ _ _ c.in-Ok.ensures)

pub put_refused-requires : goal.put_refused-requires
put_refused-requires c = output_room _ _ _ _ c.requires.kept c.in-Err.ensures
