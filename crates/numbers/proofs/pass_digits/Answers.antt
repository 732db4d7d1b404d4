-- `numbers::pass_digits` meets its contract: what the digits passed so far come to, at each way out.
use Rattle.std.proofs.Common.{arith, get_or, ◌≡◌, ◌<◌}
use Rattle.numbers.proofs.FieldLaws.{lead_high, lead_low, Passed-all, Passed-end, Passed-many, Passed-more}
use Rattle.numbers.proofs.pass_digits.Goals as goal

pub returns-in_default : goal.returns-in_default
returns-in_default c =
    let s = c.args.s.now in
    let i = c.loop-i.i in
    let low : get_or s i 0 < 48 = omega arith in
    Passed-all s c.args.at i c.loop-i.value c.loop-i.invariant.1 (lead_low s i c.loop-i-test.true low)

pub returns-in_default-2 : goal.returns-in_default-2
returns-in_default-2 c =
    let s = c.args.s.now in
    let i = c.loop-i.i in
    let high : 57 < get_or s i 0 = omega arith in
    Passed-all s c.args.at i c.loop-i.value c.loop-i.invariant.1 (lead_high s i c.loop-i-test.true (omega arith) high)

pub returns-then-i-at-eq9 : goal.returns-then-i-at-eq9
returns-then-i-at-eq9 c =
    let i = c.loop-i.i in
    Passed-many c.args.s.now c.args.at i c.loop-i.value c.loop-i.invariant.1 c.loop-i-test.true (omega arith) (omega arith)
    (omega arith)

pub loop-i-preserved : goal.loop-i-preserved
loop-i-preserved c =
    let s = c.args.s.now in
    let i = c.loop-i.i in (
      omega arith,
      Passed-more s c.args.at i c.loop-i.value c.from.result c.loop-i.invariant.1 c.loop-i-test.true
          (omega arith) (omega arith) (omega arith) (λ e. omega arith),
    )

pub returns : goal.returns
returns c =
    let s = c.args.s.now in
    let i = c.loop-i.i in
    let e : c.max-end.result ≡ i = omega arith in
    Passed-end s c.args.at i c.max-end.result c.loop-i.value c.loop-i.invariant.1 c.loop-i-test.false e
