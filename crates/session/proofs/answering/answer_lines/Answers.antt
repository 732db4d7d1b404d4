-- Each turn puts its step's answer behind the others.
use Rattle.std.proofs.Common.{refl, ap, ◌∙◌}
use Rattle.scanning.specs.Reader.{steps_left}
use Rattle.session.proofs.Answers.{all_left, less_left, none_left}
use Rattle.session.proofs.answering.answer_lines.Goals as goal

pub loop-step-init : goal.loop-step-init
loop-step-init c =
    let all = ap steps_left c.into_iter-step-iterator.ensures.into_iter_gives ∙ c.new-step-items.ensures in
    (tt, tt, refl, all_left _ _ _ _ _ c.requires.room all)

pub loop-step-preserved : goal.loop-step-preserved
loop-step-preserved c =
    let before = c.loop-step.invariant in
    let answered = c.execute-answer.ensures in (
      tt,
      tt,
      c.put_answer-end.ensures.long ∙ before.2,
      less_left _ _ _ _ _ _ _ _ _ _ c.in-Some.ensures.steps before.3 _ _ _ _ answered.answer answered.store
          c.put_answer-end.ensures.printed,
    )

pub returns-clause-printed : goal.returns-clause-printed
returns-clause-printed c = (none_left _ _ _ _ _ _ _ _ c.in-None.ensures.steps.0 c.loop-step.invariant.3).0
