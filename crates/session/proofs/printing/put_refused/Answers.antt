use Rattle.std.proofs.Common.{arith}
use Rattle.session.proofs.Parts.{by_writer, as_long}
use Rattle.session.proofs.Fitting.{refused_length}
use Rattle.session.proofs.printing.put_refused.Goals as goal

pub returns-then-keep-clause-printed : goal.returns-then-keep-clause-printed
returns-then-keep-clause-printed c =
    by_writer _ _ _ _ _ _ _ c.if-keep.true c.requires (rw c.number-number.ensures.is_the_row at c.write_record.ensures)
    c.unwrap_or.ensures

pub returns-then-keep-clause-long : goal.returns-then-keep-clause-long
returns-then-keep-clause-long c = as_long _ _ _ _ _ _ c.if-keep.true (returns-then-keep-clause-printed c)

pub returns-clause-printed : goal.returns-clause-printed
returns-clause-printed c =
    let k = c.if-keep.false in
    let n = rw c.number-number.ensures.is_the_row at c.digit_count.ensures.counted in
    let r = c.args.refused in
    record { place = omega (arith, n, refused_length r.refusal r.line); stored = λ t. cc }
