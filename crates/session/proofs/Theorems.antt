-- The theorems of `specs/Theorems.antt`. Assumes nothing.
use mathlib.Core.Path.{◌≡◌, ap, ◌∙◌}
use mathlib.Core.List.{List, [], ◌∷◌, ◌++◌, append_assoc}
use Prim.Native.Nat.{ℕ, suc, ◌+◌}
use lib.ListN.{length, length-append}
use native.Mathlib.Omega.{arith}
use Rattle.lines.specs.Lines.{up_to, lines_of}
use Rattle.lines.proofs.Laws.{up_append, lines_append}
use Rattle.inputs.proofs.Texts.{Cut, ended, open_ended, cut}
use Rattle.answers.specs.Answer.{answer_text}
use Rattle.boosting.specs.Object.{State}
use Rattle.boosting.specs.Store.{Store, opened}
use Rattle.boosting.specs.Step.{step_line}
use Rattle.answers.proofs.Theorems.{answer_line_one_lf}
use Rattle.boosting.proofs.Theorems.{term_3_rising}
use Rattle.inputs.specs.Division.{start_text, step_list}
use Rattle.closing_lists.specs.Closing.{closing_text}
use Rattle.session.specs.Output.{answer_lines, run_text}
use Rattle.session.specs.Theorems.{OneLineAStep, start_script, ClosingIsReplay}
use Rattle.session.proofs.Outcomes.{output_accepted}
use Rattle.session.proofs.Answers.{lines_answered, nothing_answered}
pub use Rattle.session.proofs.Fitting.{output_fits}

-- ---- the closing lists are the replay's
pub closing_is_replay : ClosingIsReplay
unfolding run_text
closing_is_replay s h e =
    let ls = lines_of (step_list s) in
    let t = term_3_rising (start_text s) e ls in
    record {
      output =
          output_accepted s h e
          ∙ ap (λ (x : State). answer_lines (opened (start_script s)) ls ++ closing_text x) t.state;
      answers = t.answers;
    }

-- ---- one line a step
-- a text whose only LF is its last byte is one line in front of another text
one_line : (s r : List ℕ) → up_to 10 s + 1 ≡ length s → length (lines_of (s ++ r)) ≡ suc (length (lines_of r))
one_line s r e = by_cut (cut s)
  where
    by_cut : Cut s → length (lines_of (s ++ r)) ≡ suc (length (lines_of r))
    by_cut (open_ended u) = absurd (omega arith)
    by_cut (ended l [] u q) = rw (q, append_assoc l (10 ∷ []) r, lines_append l r u)
    by_cut (ended l (b ∷ bs) u q) =
        let n = ap (up_to 10) q ∙ up_append 10 l (b ∷ bs) u in
        absurd (omega (arith, n, ap length q ∙ length-append l (10 ∷ b ∷ bs)))

each_line : (lines : List (List ℕ)) (d : Store) → length (lines_of (answer_lines d lines)) ≡ length lines
unfolding lines_of
each_line [] d = ap (λ (x : List ℕ). length (lines_of x)) (nothing_answered d)
each_line (l ∷ ls) d =
    let a = (step_line d l).answer in
    ap (λ (x : List ℕ). length (lines_of x)) (lines_answered d l ls)
    ∙ (one_line (answer_text a) (answer_lines (step_line d l).store ls) (answer_line_one_lf a)
    ∙ ap suc (each_line ls (step_line d l).store))

pub one_line_a_step : OneLineAStep
one_line_a_step script lines = each_line lines (opened script)
