-- `rank_by_bits` meets its contract: a look halves the places that are left.
use Rattle.std.proofs.Common.{◌/◌, arith}
use Rattle.sorted_keys.proofs.Halves.{around-halved}
use Rattle.sorted_keys.proofs.search.rank_by_bits.Goals as goal

pub loop-left-preserved : goal.loop-left-preserved
loop-left-preserved c =
    let l = c.loop-left in
    record {
      some = omega arith;
      around = around-halved c.args.key l.low l.left (l.left / 2) c.if_below-low.result c.args.keys.now (omega arith) (omega arith) c.requires.in_order l.invariant.around c.if_below-low.ensures;
    }
