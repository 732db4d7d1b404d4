-- What is proved of `numbered`, beside the functions' contracts: that it finds the line, where it stands and which
-- bytes it has. `proofs/Theorems.antt` has the proofs.
-- Assumes nothing.
use Rattle.std.specs.Prelude.{ℕ, suc, ◌+◌, ◌≤◌, ◌<◌, List, [], ◌++◌, ◌≡◌, length, slice_index_or, take}
use Rattle.std.specs.Borrow.{Bor}
use Rattle.lines.specs.Lines.{lines_of}
use Rattle.lines.specs.Theorems.{joined}
use Rattle.numbered_lines.specs.Numbered.{Stretch, stretch, at_end, numbered}

-- where line k of a text starts, counted from 0: behind the k lines before it, each with its LF; and where it ends
abbrev pub start_of : List ℕ → ℕ → ℕ
start_of s k = length (joined (take k (lines_of s)))

abbrev pub end_of : List ℕ → ℕ → ℕ
end_of s k = start_of s k + length (slice_index_or (lines_of s) k [])

-- line k of the text behind x, as a stretch of it
abbrev pub line_of : Bor (List ℕ) → ℕ → Stretch
line_of x k = stretch x (start_of x.now k) (end_of x.now k)

-- its bytes are those of the line with that number in the lines of both texts; numbers count from 1
abbrev pub NumberedBytes : Type 0
NumberedBytes =
    (start steps : Bor (List ℕ)) (k : ℕ)
    → (numbered start steps (suc k)).1 ≡ slice_index_or (lines_of start.now ++ lines_of steps.now) k []

-- it stands in the start script, then in the step list; with no such line it is the end of the step list
pub record NumberedPlace (start steps : Bor (List ℕ)) : Type 0 where
  pub in_start : (k : ℕ) → k < length (lines_of start.now) → numbered start steps (suc k) ≡ line_of start k
  pub in_steps : (k : ℕ) → k < length (lines_of steps.now)
      → numbered start steps (suc (length (lines_of start.now) + k)) ≡ line_of steps k
  pub past_end : (k : ℕ)
      → numbered start steps (suc (length (lines_of start.now) + (length (lines_of steps.now) + k))) ≡ at_end steps
  pub at_zero : numbered start steps 0 ≡ at_end steps

abbrev pub NumberedPlaces : Type 0
NumberedPlaces = (start steps : Bor (List ℕ)) → NumberedPlace start steps

-- a line's place lies within its text
abbrev pub LineWithin : Type 0
LineWithin = (s : List ℕ) (k : ℕ) → k < length (lines_of s) → end_of s k ≤ length s
