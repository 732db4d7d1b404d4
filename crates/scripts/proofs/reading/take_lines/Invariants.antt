-- The invariant: reading on from here gives what reading the whole text gives.
use Rattle.std.proofs.Common.{length, ◌+◌, ◌≡◌, ◌≤◌}
use Rattle.std.specs.Iterator.Adapters.{enumerate_source, enumerate_count}
use Rattle.lines.specs.Lines.{lines_of}
use Rattle.line_reader.specs.Reader.{lines_left}
use Rattle.scripts.specs.Script.{read_from}
use Rattle.scripts.proofs.reading.take_lines.Given as goal

abbrev pub invariant-loop-index : goal.invariant-loop-index
invariant-loop-index l =
    record {
      goes : (goal.iterator-loop-index).can_next l.index-iterator;
      ends : (goal.iterator-loop-index).is_finite l.index-iterator;
      few : enumerate_count l.index-iterator + length (lines_left (enumerate_source l.index-iterator)) ≤ length l.text;
      so_far :
          read_from (enumerate_count l.index-iterator + 1) l.keys (lines_left (enumerate_source l.index-iterator))
          ≡ read_from 1 l.initial.keys (lines_of l.text);
    }
