-- `reserve_all` meets its contract: the iterator gives the transactions from the last one on.
use Rattle.std.proofs.Common.{List, length, ap, ◌∙◌, arith}
use Rattle.std.proofs.lemmas.Iterator.Adapters.{YieldsList-from_rev_slice}
use Rattle.std.proofs.lemmas.Iterator.Consumers.{YieldsList-turn}
use Rattle.std.proofs.lemmas.List.{length-reverse, length_push}
use Rattle.boosting.specs.Room.{reserved_by}
use Rattle.boosting.specs.Undo.{Entry}
use Rattle.slots.proofs.Reserved.{in_none, in_next}
use Rattle.slots.proofs.reserve_all.Goals as goal

pub loop-transaction-init : goal.loop-transaction-init
loop-transaction-init c =
    let e = c.copy_from.ensures in
    record {
      put = e ∙ c.script.ensures.value ∙ in_none _ c.args.transactions.now c.args.object.now.script (omega arith);
      few = omega (arith, ap length e, c.script.ensures.fits);
    }

pub loop-transaction-preserved : goal.loop-transaction-preserved
loop-transaction-preserved c =
    let l = c.loop-transaction in
    let ts = c.args.transactions.now in
    let t = c.in-Some.transaction in
    let turn = YieldsList-turn (YieldsList-from_rev_slice ts cc) l.yielded _ l.yielded_by _ _ t c.in-Some.is c.next.ensures.steps in
    let more = length_push l.yielded t in
    let e = c.reserve_log.ensures.with_them ∙ ap (λ (g : List Entry). reserved_by g l.slots) c.log.ensures in
    record {
      put = in_next _ _ ts t.now _ _ _ (omega (arith, turn.0, length-reverse ts)) more turn.1 l.invariant.put e;
      few = omega (arith, more, c.reserve_log.ensures.at_most, l.invariant.few);
    }
