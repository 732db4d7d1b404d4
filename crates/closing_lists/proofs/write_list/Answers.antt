-- Both parts fit, so no writer refuses.
use Rattle.std.proofs.Common.{refl}
use Rattle.buffers.proofs.Rest.{left_all, left_last, left_more, left_refused}
use Rattle.closing_lists.proofs.Lists.{list_parts}
use Rattle.closing_lists.proofs.write_list.Goals as goal

pub returns-in_err-middle : goal.returns-in_err-middle
returns-in_err-middle c =
    let parts = list_parts c.args.word.now c.args.keys.now in
    absurd (left_refused (left_all c.requires.has_room) parts c.write_number_line.ensures c.in_err-middle.was)

pub returns : goal.returns
returns c =
    let parts = list_parts c.args.word.now c.args.keys.now in
    left_last (left_more (left_all c.requires.has_room) parts c.write_number_line.ensures c.in_ok-middle.was) refl
    (c.write_cues.ensures.whole c.requires.few)
