-- Term 1: a refused line changes nothing, and a row is met exactly when its condition holds and no earlier row is met.
-- Assumes nothing.
use Prim.Native.Nat.{ℕ}
use mathlib.Core.Path.{◌≡◌, ap}
use mathlib.Core.Bool.{false}
use mathlib.Core.List.{List, [], ◌∷◌}
use mathlib.Core.Logic.{◌↔◌}
use Rattle.std.specs.Prelude.{Option, None, Some}
use native.Mathlib.Omega.{arith}
use Rattle.refusals.specs.declared.Refusal.{Refusal}
use Rattle.refusals.specs.declared.Refusal.TheVariants.{Malformed as MalformedLine}
use Rattle.steps.specs.Step.{step_of}
use Rattle.steps.specs.declared.reading.Step.{Step}
use Rattle.answers.specs.declared.Answer.TheVariants.{Refused}
use Rattle.boosting.specs.Store.{Store}
use Rattle.boosting.specs.Rows.{Action, call, Request, request, request_of, rows_of, first_met, refusal_of}
use Rattle.boosting.specs.Step.{Out, accept, perform, step_on, step_line}
use Rattle.boosting.specs.Replay.{is_refused}
use Rattle.boosting.specs.Theorems.{RefusalsChangeNothing, FirstOf, RowsDecide, MalformedExactly, AcceptedExactly}
use Rattle.boosting.proofs.Accepted.{Accepts, no_call, malformed_refused, step_refused}

-- what is performed is not answered by a refusal
pub perform_accepted : (d : Store) (e : ℕ) (a : Action) → Accepts d e a → is_refused (perform d e a).answer ≡ false
unfolding perform accept
perform_accepted d e (call None) h = no_call d e h
perform_accepted d e a h = grind arith

-- a step is answered by no refusal exactly when it meets no row
pub accepted_exactly : AcceptedExactly
unfolding step_on
accepted_exactly d None = grind (arith, malformed_refused)
accepted_exactly d (Some q) = grind (arith, perform_accepted d q.transaction q.action)

-- and by a refusal exactly when the first row that it meets says so
pub refused_exactly : (d : Store) (q : Option Request) (r : Refusal)
    → ((step_on d q).answer ≡ Refused r) ↔ (refusal_of d q ≡ Some r)
unfolding step_on
refused_exactly d None r = grind (arith, malformed_refused)
refused_exactly d (Some q) r = grind (arith, perform_accepted d q.transaction q.action)

pub refusals_change_nothing : RefusalsChangeNothing
unfolding step_line
refusals_change_nothing d line r h =
    let q = request_of (step_of line) in
    ap (λ (o : Out). o.store) (step_refused d q r ((refused_exactly d q r).0 h))

first_is : (rows : List (Option Refusal)) (r : Refusal) → (first_met rows ≡ Some r) ↔ FirstOf rows r
unfolding first_met
first_is [] r = grind arith
first_is (row ∷ rows) r = grind (arith, first_is rows r)

pub rows_decide : RowsDecide
unfolding refusal_of
rows_decide d e a r =
    let s = refused_exactly d (request e a) r in
    let f = first_is (rows_of d e a) r in
    (λ h. f.0 (s.0 h), λ h. s.1 (f.1 h))

-- ---- row 1

malformed_request : (d : Store) (s : Option Step) → (refusal_of d (request_of s) ≡ Some MalformedLine) ↔ (s ≡ None)
unfolding refusal_of first_met
malformed_request d s = grind arith

-- row 1 is met exactly by a malformed line
pub malformed_exactly : MalformedExactly
unfolding step_line
malformed_exactly d line =
    let r = refused_exactly d (request_of (step_of line)) MalformedLine in
    let m = malformed_request d (step_of line) in
    (λ h. m.0 (r.0 h), λ h. r.1 (m.1 h))
