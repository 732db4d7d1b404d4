-- What reading a line at a place of a text finds.
-- Assumes nothing.
use Rattle.std.specs.Prelude.{ℕ, ◌+◌, ◌-◌, ◌≤◌, ◌≡◌, if◌then◌else◌, List, [], ◌∷◌, nat_lt, length, take, drop}
use Rattle.std.specs.Prelude.{Option, Some, None}
use Rattle.lines.specs.Lines.{up_to, lines_of}
use Rattle.lines.specs.declared.Line.{Line}

-- the line that starts at the place and ends at `end`: the next place is behind its LF
abbrev pub line_to : ℕ → ℕ → Line
line_to at end = record { start = at; end = end; next = end + 1 }

-- the line that starts at the place; none at or past the end of the text
abbrev pub line_at : List ℕ → ℕ → Option Line
line_at s at = if nat_lt at (length s) then Some (line_to at (at + up_to 10 (drop at s))) else None

-- the bytes of a line
abbrev pub line_bytes : List ℕ → Line → List ℕ
line_bytes s line = take (line.end - line.start) (drop line.start s)

-- the line lies in the text, and is the first of those from the place on; the others begin at its next place
pub record FirstLine (s : List ℕ) (at : ℕ) (line : Line) : Type 0 where
  pub is_first : lines_of (drop at s) ≡ line_bytes s line ∷ lines_of (drop line.next s)
  pub place : line ≡ line_to at (at + length (line_bytes s line))
  pub within : line.end ≤ length s

-- there are no lines from the place on
pub record NoLine (s : List ℕ) (at : ℕ) : Type 0 where
  pub none : lines_of (drop at s) ≡ []
  pub at_end : length s ≤ at
