-- The place is the one behind the others, or that of the only line.
use Rattle.std.proofs.Common.{arith, refl}
use Rattle.session.proofs.Parts.{at_end, in_front, behind, answered, line_long}
use Rattle.session.proofs.Fitting.{line_at_most}
use Rattle.session.proofs.printing.put_answer.Goals.{then-keep, else-keep}
use Rattle.session.proofs.printing.put_answer.Goals as goal

pub overflow_sub-result : goal.overflow_sub-result
overflow_sub-result c =
    let a = c.args in
    let few = line_at_most a.answer in
    let h = c.requires.room in
    let one = c.requires.counted in
    let end = c.append_answer-end in
    elim c.if-keep.branch [
      | then-keep w ↦
          let p = at_end a.keep a.buf.now end.new.buf _ a.at end.result few h one _ w.if-keep.true w.place-is in
          omega (arith, behind _ _ _ _ _ _ few h one _ p end.ensures)
      | else-keep w ↦
          let p = in_front a.keep a.buf.now end.new.buf _ a.at end.result few h one _ w.if-keep.false w.place-is in
          omega (arith, behind _ _ _ _ _ _ few h one _ p end.ensures)
    ]

pub overflow_add-result : goal.overflow_add-result
overflow_add-result c =
    let a = c.args in
    let few = line_at_most a.answer in
    let h = c.requires.room in
    let one = c.requires.counted in
    let end = c.append_answer-end in
    elim c.if-keep.branch [
      | then-keep w ↦
          let p = at_end a.keep a.buf.now end.new.buf _ a.at end.result few h one _ w.if-keep.true w.place-is in
          omega (arith, behind _ _ _ _ _ _ few h one _ p end.ensures, h.in_count)
      | else-keep w ↦
          let p = in_front a.keep a.buf.now end.new.buf _ a.at end.result few h one _ w.if-keep.false w.place-is in
          omega (arith, behind _ _ _ _ _ _ few h one _ p end.ensures, h.in_count)
    ]

pub returns-clause-printed : goal.returns-clause-printed
returns-clause-printed c =
    let a = c.args in
    let few = line_at_most a.answer in
    let h = c.requires.room in
    let one = c.requires.counted in
    let end = c.append_answer-end in
    elim c.if-keep.branch [
      | then-keep w ↦
          let p = at_end a.keep a.buf.now end.new.buf _ a.at end.result few h one _ w.if-keep.true w.place-is in
          answered _ _ _ _ _ _ few h one _ p end.ensures _ refl
      | else-keep w ↦
          let p = in_front a.keep a.buf.now end.new.buf _ a.at end.result few h one _ w.if-keep.false w.place-is in
          answered _ _ _ _ _ _ few h one _ p end.ensures _ refl
    ]

pub returns-clause-long : goal.returns-clause-long
returns-clause-long c =
    let a = c.args in
    let few = line_at_most a.answer in
    let h = c.requires.room in
    let one = c.requires.counted in
    let end = c.append_answer-end in
    elim c.if-keep.branch [
      | then-keep w ↦
          let p = at_end a.keep a.buf.now end.new.buf _ a.at end.result few h one _ w.if-keep.true w.place-is in
          line_long _ _ _ _ _ _ few h one _ p end.ensures
      | else-keep w ↦
          let p = in_front a.keep a.buf.now end.new.buf _ a.at end.result few h one _ w.if-keep.false w.place-is in
          line_long _ _ _ _ _ _ few h one _ p end.ensures
    ]
