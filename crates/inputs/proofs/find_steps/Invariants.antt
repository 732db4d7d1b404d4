-- The first line `steps` of those that are left is the first of all.
use Rattle.std.proofs.Common.{◌+◌, ◌≡◌}
use Rattle.inputs.specs.Division.{steps_place}
use Rattle.line_reader.specs.Reader.{lines_left}
use Rattle.lines.specs.Lines.{lines_of}
use Rattle.inputs.proofs.find_steps.Given as goal

abbrev pub invariant-loop-line : goal.invariant-loop-line
invariant-loop-line l =
    record {
      goes : (goal.iterator-loop-line).can_next l.line-iterator;
      ends : (goal.iterator-loop-line).is_finite l.line-iterator;
      same_text : l.line-iterator.reader.text.now ≡ l.input;
      so_far : l.line-iterator.reader.at + steps_place (lines_left l.line-iterator.reader) ≡ steps_place (lines_of l.input);
    }
