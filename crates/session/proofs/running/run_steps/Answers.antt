-- The closing lists of the recovered store stand behind the answers.
use Rattle.lines.specs.Lines.{lines_of}
use Rattle.session.proofs.Outcomes.{run_parts, run_parted}
use Rattle.session.proofs.Parts.{both_printed, first_room, rest_room}
use Rattle.session.proofs.running.run_steps.Goals as goal

pub answer_lines-end-requires-clause-room : goal.answer_lines-end-requires-clause-room
answer_lines-end-requires-clause-room c =
    first_room _ _ _ _ _ _ (run_parts c.args.store.now (lines_of c.args.text.now)) c.requires.room

pub put_closing-requires : goal.put_closing-requires
put_closing-requires c =
    let a = c.answer_lines-end in
    rest_room _ _ _ _ _ _ (run_parted _ _ _ _ _ a.ensures.stepped c.recover.ensures c.object.ensures.value) _ _
    a.ensures.printed c.requires.room

pub returns-clause-printed : goal.returns-clause-printed
returns-clause-printed c =
    let a = c.answer_lines-end in
    both_printed _ _ _ _ _ _ (run_parted _ _ _ _ _ a.ensures.stepped c.recover.ensures c.object.ensures.value) _ _
    a.ensures.printed _ _ c.put_closing.ensures.printed
