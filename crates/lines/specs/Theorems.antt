-- What is proved of these definitions, beside the functions' contracts: that `lines_of` is what a reader means by the
-- lines of a text, and that `line_at` reads them. `proofs/Theorems.antt` has the proofs.
-- Assumes nothing.
use Rattle.std.specs.Prelude.{ℕ, zero, suc, ◌-◌, ◌≤◌, if◌then◌else◌, ◌≡◌, nat_eq, length, take, drop}
use Rattle.std.specs.Prelude.{Option, Some, None}
use mathlib.Core.List.{List, [], ◌∷◌, ◌++◌, Memᴰ}
use Rattle.lines.specs.Lines.{lines_of}
use Rattle.lines.specs.Line.{line_at}
use Rattle.lines.specs.declared.Line.{Line}

-- ---- the lines are the text, cut at each LF
-- each line with its LF behind it
unfoldable pub joined : List (List ℕ) → List ℕ
joined [] = []
joined (l ∷ ls) = l ++ 10 ∷ joined ls

-- the text with its last LF put in where it is missing; an empty text has no line, and stays
unfoldable pub closed : List ℕ → List ℕ
closed [] = []
closed (b ∷ []) = if nat_eq b 10 then b ∷ [] else b ∷ 10 ∷ []
closed (b ∷ c ∷ bs) = b ∷ closed (c ∷ bs)

-- the lines joined again are the text
abbrev pub LinesJoined : Type 0
LinesJoined = (s : List ℕ) → joined (lines_of s) ≡ closed s

-- no line holds an LF
abbrev pub LinesWithoutLF : Type 0
LinesWithoutLF = (s l : List ℕ) → Memᴰ l (lines_of s) → Memᴰ 10 l → ⊥

-- ---- reading line after line finds them all
-- the bytes of the line that was read, in front of those found from the next place on; none at the end
abbrev pub read_on : List ℕ → Option Line → (ℕ → List (List ℕ)) → List (List ℕ)
read_on s (Some line) from = take (line.end - line.start) (drop line.start s) ∷ from line.next
read_on s None from = []

-- the lines that `line_at` finds from a place on until there is none, in at most so many reads
unfoldable pub read_from : ℕ → List ℕ → ℕ → List (List ℕ)
read_from zero s at = []
read_from (suc reads) s at = read_on s (line_at s at) (read_from reads s)

-- from the start on they are the lines of the text; as many reads as the text has bytes are enough
abbrev pub LinesRead : Type 0
LinesRead = (s : List ℕ) (reads : ℕ) → length s ≤ reads → read_from reads s 0 ≡ lines_of s
