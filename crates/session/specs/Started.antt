-- What the start of a session leaves: in each case, what the program prints. Assumes nothing.
use Rattle.std.specs.Prelude.{ℕ, ◌≤◌, ◌≡◌, List, length, drop, Result, Ok, Err}
use Rattle.refusals.specs.declared.RefusedText.{RefusedText}
use Rattle.lines.specs.Lines.{lines_of}
use Rattle.boosting.specs.Store.{Store}
use Rattle.session.specs.Output.{run_text, start_refused, output_of}

-- the store, stepped through the lines from the place on, prints the output
pub record Running (d : Store) (input : List ℕ) (from : ℕ) : Type 0 where
  pub short : length input ≤ 65536
  pub within : from ≤ length input
  pub prints : run_text d (lines_of (drop from input)) ≡ output_of input

abbrev pub Started : Store → List ℕ → Result ℕ RefusedText → Type 0
Started d input (Ok from) = Running d input from
Started d input (Err why) = start_refused why.refusal why.line ≡ output_of input
