use Rattle.std.proofs.Common.{arith}
use Rattle.slots.proofs.Reserved.{by_next, length_entry}
use Rattle.slots.proofs.reserve_log.Goals as goal

pub loop-entry-preserved : goal.loop-entry-preserved
loop-entry-preserved c =
    let e = c.reserve_entry.ensures in
    record {
      put = by_next c.loop-entry.entry-index c.entries-entry-items.result.now _ (omega arith) _ _ _ c.loop-entry.invariant.put e;
      few = omega (arith, length_entry _ _ _ e, c.loop-entry.invariant.few);
    }
