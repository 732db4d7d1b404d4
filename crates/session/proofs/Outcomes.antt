-- What is printed, by the outcome of the start text. Assumes nothing.
use mathlib.Core.Path.{◌≡◌, refl, sym, ap, ◌∙◌}
use mathlib.Core.Bool.{Bool, true}
use mathlib.Core.List.{List, ◌++◌}
use Prim.Native.Nat.{ℕ, ◌-◌, ◌≤◌}
use native.Mathlib.Omega.{arith}
use lib.ListN.{length, take, drop, length-drop}
use lib.Seq.{take_all}
use lib.Dec.{ltb}
use borrow.Author.Tests.{ltb-false, le-ltb}
use Rattle.tables.proofs.Laws.{split}
use Rattle.refusals.specs.Refusal.{length_checked}
use Rattle.lines.specs.Lines.{lines_of}
use Rattle.std.specs.Prelude.{Result, Ok, Err}
use Rattle.std.specs.Result.{IsOk}
use Rattle.refusals.specs.declared.RefusedText.{RefusedText}
use Rattle.scripts.specs.Script.{script_of, script_or_empty}
use Rattle.boosting.specs.Object.{State}
use Rattle.boosting.specs.Store.{Store, opened}
use Rattle.boosting.specs.Run.{run}
use Rattle.boosting.specs.Recovery.{recover, rising}
use Rattle.inputs.specs.Division.{start_text, step_list}
use Rattle.closing_lists.specs.Closing.{closing_text}
use Rattle.store.specs.Answering.{opening}
use Rattle.session.specs.Output.{answer_lines, recovered, run_text, start_refused, output_with, output_of}
use Rattle.session.specs.Started.{Running}
use Rattle.session.specs.Printing.{HasRoom}
use Rattle.session.proofs.Fitting.{output_fits}

-- ---- the three cases
-- what the length of a text says of it
pub length_short : (s : List ℕ) → Ok tt ≡ length_checked s → length s ≤ 65536
length_short s e =
    split (ltb 65536 (length s)) (λ q. let z : ◌≡◌ {A = Result (Unit {0}) RefusedText} (Ok tt) (Err _) = rw q at e in cc)
    (λ q. ltb-false _ _ q)

pub output_long : (s : List ℕ) (why : RefusedText) → Err why ≡ length_checked s → start_refused why.refusal why.line ≡ output_of s
unfolding output_of
output_long s why e =
    split (ltb 65536 (length s)) (λ q. rw q (cc (rw q at e)))
    (λ q. let z : ◌≡◌ {A = Result (Unit {0}) RefusedText} (Err why) (Ok tt) = rw q at e in cc)

pub output_refused : (s start : List ℕ) (why : RefusedText) → length s ≤ 65536 → start ≡ start_text s
    → Err why ≡ opening (script_of start) → start_refused why.refusal why.line ≡ output_of s
unfolding output_of
output_refused s start why h es e = rw (le-ltb _ _ h, ← es) (by_script (script_of start) e)
  where
    by_script : (r : Result (List ℕ) RefusedText) → Err why ≡ opening r
        → start_refused why.refusal why.line ≡ output_with r (lines_of (step_list s))
    by_script (Err w) q = cc
    by_script (Ok t) q = cc

pub output_accepted : (s : List ℕ) → length s ≤ 65536 → IsOk (script_of (start_text s))
    → output_of s ≡ run_text (opened (script_or_empty (script_of (start_text s)))) (lines_of (step_list s))
unfolding output_of
output_accepted s h e = rw (le-ltb _ _ h) (by_script (script_of (start_text s)) e)
  where
    by_script : (r : Result (List ℕ) RefusedText) → IsOk r
        → output_with r (lines_of (step_list s)) ≡ run_text (opened (script_or_empty r)) (lines_of (step_list s))
    by_script (Ok t) q = refl
    by_script (Err w) q = cc

-- the parts of the input and the store opened, as the code has them
pub output_run : (s start steps : List ℕ) (d : Store) → length s ≤ 65536 → start ≡ start_text s
    → steps ≡ step_list s → Ok tt ≡ opening (script_of start) → d ≡ opened (script_or_empty (script_of start))
    → run_text d (lines_of steps) ≡ output_of s
output_run s start steps d h es et e ed =
    let q : IsOk (script_of (start_text s)) = rw (← es) (is_accepted (script_of start) e) in
    rw (ed, es, et) (sym (output_accepted s h q))
  where
    is_accepted : (r : Result (List ℕ) RefusedText) → Ok tt ≡ opening r → IsOk r
    is_accepted (Ok t) q = refl
    is_accepted (Err w) q = cc

-- ---- the start of a session
-- the step list, as the code cuts it out
pub part_prints : (d : Store) (input : List ℕ) (from : ℕ) → Running d input from
    → run_text d (lines_of (take (length input - from) (drop from input))) ≡ output_of input
part_prints d input from v =
    let n : length (drop from input) ≤ length input - from = omega (arith, length-drop from input) in
    ap (λ (x : List ℕ). run_text d (lines_of x)) (take_all (length input - from) (drop from input) n) ∙ v.prints

-- ---- the answers of a run, and behind them the closing lists of the store that is recovered
pub run_parts : (d : Store) (ls : List (List ℕ))
    → run_text d ls ≡ answer_lines d ls ++ closing_text (recovered d ls).state
unfolding run_text
run_parts d ls = refl

pub run_parted : (d d₁ d₂ : Store) (ls : List (List ℕ)) (s : State) → d₁ ≡ (run d ls).store → d₂ ≡ recover d₁ rising
    → s ≡ d₂.state → run_text d ls ≡ answer_lines d ls ++ closing_text s
run_parted d d₁ d₂ ls s e₁ e₂ e = run_parts d ls ∙ rw (e, e₂, e₁)

-- ---- the room for an output
pub output_room : (keep : Bool) (buf s text : List ℕ) → (keep ≡ true → length (output_of s) ≤ length buf)
    → text ≡ output_of s → HasRoom keep buf 0 text
output_room keep buf s text h e =
    rw e (record { in_count = omega (arith, output_fits s); in_buffer = λ k. omega (arith, h k) })
