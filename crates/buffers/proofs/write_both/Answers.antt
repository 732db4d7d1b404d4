-- `buffers::write_both` meets its contract: where both fit, neither writer refuses.
use Rattle.std.proofs.Common.{arith, length-append, sym}
use Rattle.buffers.proofs.Answers.{not_refused}
use Rattle.buffers.proofs.Laws.{no_room, room, too_short}
use Rattle.buffers.proofs.Rest.{both_written}
use Rattle.buffers.proofs.write_both.Goals as goal

pub returns-in_err-middle : goal.returns-in_err-middle
returns-in_err-middle c =
    let a = c.args in
    let h = room _ _ _ _ _ c.fits.ensures c.if-fits.true (sym (length-append a.first.now a.second.now)) in
    absurd
    (not_refused a.buf.now c.write_bytes.new.buf a.first.now c.write_bytes.result a.at _ (omega (arith, length-append a.first.now a.second.now))
    c.write_bytes.ensures c.in_err-middle.was)

pub returns-then-fits : goal.returns-then-fits
returns-then-fits c =
    let a = c.args in
    let h = room _ _ _ _ _ c.fits.ensures c.if-fits.true (sym (length-append a.first.now a.second.now)) in
    both_written a.buf.now c.write_bytes.new.buf c.write_bytes-then-fits.new.buf a.first.now a.second.now c.write_bytes.result _ a.at _
    (omega (arith, length-append a.first.now a.second.now)) c.write_bytes.ensures c.in_ok-middle.was c.write_bytes-then-fits.ensures

pub returns : goal.returns
returns c =
    let a = c.args in
    too_short a.buf.now _ a.at (no_room _ _ _ _ _ c.fits.ensures c.if-fits.false (sym (length-append a.first.now a.second.now)))
