-- What is left to do, from the present store on and behind the answers given, gives the whole.
use Rattle.lines.specs.Lines.{lines_of}
use Rattle.scanning.specs.Reader.{steps_left}
use Rattle.std.specs.Prelude.{◌≡◌, length}
use Rattle.session.proofs.Answers.{Left}
use Rattle.session.proofs.answering.answer_lines.Given as goal

abbrev pub invariant-loop-step : goal.invariant-loop-step
invariant-loop-step l =
    (goal.iterator-loop-step).can_next l.step-iterator
    × (goal.iterator-loop-step).is_finite l.step-iterator
    × (length l.buf ≡ length l.initial.buf)
    × Left l.keep l.initial.buf l.initial.store (lines_of l.text) l.buf l.end l.store (steps_left l.step-iterator)
