-- Both lists fit, so no writer refuses.
use Rattle.std.proofs.Common.{◌≡◌, true, refl}
use Rattle.buffers.proofs.Laws.{room}
use Rattle.buffers.proofs.Rest.{Left, first_fits, left_all, left_fits, left_last, left_more, left_refused}
use Rattle.closing_lists.specs.Closing.{state_of, closing_text}
use Rattle.closing_lists.proofs.Lists.{closing_parts}
use Rattle.closing_lists.proofs.write_closing.Goals as goal
use Rattle.closing_lists.proofs.write_closing.Goals.{After-fits}

-- all of it is left to write
start : (c : After-fits) → c.fits.result ≡ true
    → (let b = c.args.buf.now in let t = closing_text (state_of c.args.script.now c.args.queue.now) in Left b t c.args.at b t c.args.at)
start c fit = left_all (room _ _ _ _ _ c.fits.ensures fit c.closing_length.ensures.counted)

pub write_list-requires-clause-has_room : goal.write_list-requires-clause-has_room
write_list-requires-clause-has_room c =
    let all = start (goal.at.write_list-requires-clause-has_room c).After-fits c.if-not-fits.false in
    first_fits all (closing_parts _ _)

pub returns-in_err-middle : goal.returns-in_err-middle
returns-in_err-middle c =
    let all = start (goal.at.returns-in_err-middle c).After-fits c.if-not-fits.false in
    absurd (left_refused all (closing_parts _ _) c.write_list.ensures c.in_err-middle.was)

pub write_list-requires-2-clause-has_room : goal.write_list-requires-2-clause-has_room
write_list-requires-2-clause-has_room c =
    let all = start (goal.at.write_list-requires-2-clause-has_room c).After-fits c.if-not-fits.false in
    left_fits (left_more all (closing_parts _ _) c.write_list.ensures c.in_ok-middle.was)

pub returns : goal.returns
returns c =
    let all = start (goal.at.returns c).After-fits c.if-not-fits.false in
    left_last (left_more all (closing_parts _ _) c.write_list.ensures c.in_ok-middle.was) refl c.write_list-2.ensures
