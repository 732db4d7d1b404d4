use Rattle.std.proofs.Common.{arith, length, ◌<◌, ◌≤◌}
use Rattle.lines.proofs.Laws.{up_end, up_here, up_more}
use Rattle.lines.proofs.find_byte.Goals as goal

pub returns-then-s-i : goal.returns-then-s-i
returns-then-s-i c =
    let a = c.args in
    let i = c.loop-i.i in
    let h : i < length a.s.now = omega arith in
    let e = up_here a.sep a.s.now i h c.if-s-i.true in
    omega arith

pub loop-i-preserved : goal.loop-i-preserved
loop-i-preserved c =
    let a = c.args in
    let i = c.loop-i.i in
    let h : i < length a.s.now = omega arith in
    let e = up_more a.sep a.s.now i h c.if-s-i.false in
    omega arith

pub returns : goal.returns
returns c =
    let a = c.args in
    let i = c.loop-i.i in
    let h : length a.s.now ≤ i = omega arith in
    let e = up_end a.sep a.s.now i h in
    omega arith
