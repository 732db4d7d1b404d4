use Rattle.session.proofs.Parts.{by_writer, as_long}
use Rattle.session.proofs.printing.put_closing.Goals as goal

pub returns-then-keep-clause-printed : goal.returns-then-keep-clause-printed
returns-then-keep-clause-printed c =
    let written = rw (c.script.ensures.value, c.queue.ensures.value) at c.write_closing.ensures in
    by_writer _ _ _ _ _ _ _ c.if-keep.true c.requires written c.unwrap_or.ensures

pub returns-then-keep-clause-long : goal.returns-then-keep-clause-long
returns-then-keep-clause-long c = as_long _ _ _ _ _ _ c.if-keep.true (returns-then-keep-clause-printed c)
