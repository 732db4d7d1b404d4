-- Where reading goes on behind a line, what the line reader does, and what it has still to give.
-- Assumes nothing.
use Rattle.std.specs.Prelude.{ℕ, ◌+◌, ◌≡◌, ◌≤◌, List, [], ◌∷◌, length, drop, Option, Some, None}
use Rattle.lines.specs.Line.{line_at, line_bytes, line_to}
use Rattle.lines.specs.Lines.{lines_of}
use Rattle.lines.specs.declared.Line.{Line}
use Rattle.line_reader.specs.declared.LineReader.{LineReader}

-- the place to read on from: behind the line, or where it was
abbrev pub place_after : Option Line → ℕ → ℕ
place_after (Some line) at = line.next
place_after None at = at

-- a reader took a line: it is the one at its place, its text is the same, and its place moved on
pub record Taken (before after : LineReader) (line : Option Line) : Type 0 where
  pub is : line ≡ line_at before.text.now before.at
  pub text : after.text ≡ before.text
  pub place : after.at ≡ place_after line before.at

-- the lines from a reader's place on
abbrev pub lines_left : LineReader → List (List ℕ)
lines_left reader = lines_of (drop reader.at reader.text.now)

-- the line that a reader took is the first of those left to it, and it goes on behind the line
pub record TookLine (before after : LineReader) (line : Line) : Type 0 where
  pub is_first : lines_left before ≡ line_bytes before.text.now line ∷ lines_left after
  pub place : line ≡ line_to before.at (before.at + length (line_bytes before.text.now line))
  pub within : line.end ≤ length before.text.now
  pub same_text : after.text ≡ before.text
  pub goes_on : after.at ≡ line.next

-- no line is left to a reader, and it stays at the end of its text
pub record TookNone (before after : LineReader) : Type 0 where
  pub none : lines_left before ≡ []
  pub at_end : length before.text.now ≤ before.at
  pub stays : after ≡ before
