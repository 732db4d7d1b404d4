-- The line that is sought, among those that are left.
use Rattle.std.proofs.Common.{◌≡◌}
use Rattle.line_reader.specs.Reader.{lines_left}
use Rattle.lines.specs.Lines.{lines_of}
use Rattle.numbered_lines.specs.Numbered.{seek}
use Rattle.numbered_lines.proofs.seek_line.Given as goal

abbrev pub invariant-loop-line : goal.invariant-loop-line
invariant-loop-line l =
    record {
      goes : (goal.iterator-loop-line).can_next l.line-iterator;
      ends : (goal.iterator-loop-line).is_finite l.line-iterator;
      same_text : l.line-iterator.reader.text.now ≡ l.text;
      so_far : seek l.line-iterator.reader.at (lines_left l.line-iterator.reader) l.left ≡ seek 0 (lines_of l.text) l.k;
    }
