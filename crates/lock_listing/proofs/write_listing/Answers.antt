-- The lines are written in the model's order; each transaction's fit, so no writer refuses.
use Rattle.std.proofs.Common.{arith}
use Rattle.buffers.proofs.Rest.{left_more, left_none, left_refused}
use Rattle.lock_listing.proofs.Listings.{in_order, listing_over, listing_parts}
use Rattle.lock_listing.proofs.write_listing.Goals as goal

pub returns-in_err-end : goal.returns-in_err-end
returns-in_err-end c =
    let parts = listing_parts c.args.transactions.now c.loop-i.i _ _ (omega arith) c.locks.ensures in
    absurd (left_refused c.loop-i.invariant parts c.write_locks.ensures c.in_err-end.was)

pub loop-i-preserved : goal.loop-i-preserved
loop-i-preserved c =
    let parts = listing_parts c.args.transactions.now c.loop-i.i _ _ (omega arith) c.locks.ensures in
    left_more c.loop-i.invariant parts c.write_locks.ensures c.in_ok-end.was

pub returns : goal.returns
returns c =
    let over = listing_over c.args.transactions.now c.loop-i.i (omega arith) in
    in_order c.args.transactions.now c.args.at c.args.buf.now (left_none c.loop-i.invariant over)
