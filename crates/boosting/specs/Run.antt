-- A run: a list of lines of bytes, of any length, stepped one after the other. Assumes nothing.
use Rattle.std.specs.Prelude.{ℕ, List, [], ◌∷◌, map, reverse}
use Rattle.answers.specs.declared.Answer.{Answer}
use Rattle.boosting.specs.Store.{Store}
use Rattle.boosting.specs.Step.{step_line}

-- a line, and what it was answered
pub record Event : Type 0 where
  pub line : List ℕ
  pub answer : Answer

-- the store, and what happened, newest first
pub record Run : Type 0 where
  pub store : Store
  pub past : List Event

abbrev pub begun : Store → Run
begun d = record { store = d; past = [] }

unfoldable pub advance : Run → List ℕ → Run
advance r line = record {
  store = (step_line r.store line).store;
  past = record { line = line; answer = (step_line r.store line).answer } ∷ r.past;
}

unfoldable pub run_from : Run → List (List ℕ) → Run
run_from r [] = r
run_from r (l ∷ ls) = run_from (advance r l) ls

-- all lines, stepped from a store
abbrev pub run : Store → List (List ℕ) → Run
run d lines = run_from (begun d) lines

abbrev pub answer_at : Event → Answer
answer_at h = h.answer

-- the answers in the order of the lines
abbrev pub answers : Store → List (List ℕ) → List Answer
answers d lines = reverse (map answer_at (run d lines).past)
