-- Laws of a line that is read from its start: from its LF back to its start, what was read before a place and what
-- stands from there on are the step's line; and the step at the start is then the one that scanning finds.
-- Assumes nothing.
use Prim.Native.Nat.{ℕ, suc, ◌+◌, ◌-◌, ◌≤◌, ◌<◌}
use mathlib.Core.Path.{◌≡◌, refl, sym, ap, subst, ◌∙◌}
use mathlib.Core.List.{List, [], ◌∷◌, ◌++◌, append_assoc, append-nil}
use native.Mathlib.Omega.{arith}
use lib.ListN.{length, get_or, take, drop, length-drop, take-append-drop}
use lib.Seq.{drop-cons, drop-drop, take-add, length-take-le}
use Rattle.lines.specs.Lines.{up_to}
use Rattle.lines.specs.Standing.{Stands}
use Rattle.lines.proofs.Laws.{up_append, none_append, none_one}
use Rattle.digits.specs.Digits.{digits_of}
use Rattle.digits.proofs.Laws.{none_digits}
use Rattle.records.specs.Record.{field_text}
use Rattle.cues.specs.declared.CueNumbers.{CueNumbers}
use Rattle.steps.specs.declared.reading.Step.{Step}
use Rattle.steps.specs.declared.reading.Step.TheVariants.{WithNumber, WithCue}
use Rattle.std.specs.Prelude.{Option, Some, None, IsSomeAnd}
use Rattle.step_words.specs.declared.NumberWord.{NumberWord}
use Rattle.step_words.specs.declared.NumberWord.TheVariants.{Begin, Min, Take, Commit, Undo, Back}
use Rattle.step_words.specs.declared.CueWord.{CueWord}
use Rattle.step_words.specs.declared.CueWord.TheVariants.{Add, Remove, Has, Push}
use Rattle.step_words.specs.Word.{number_word, cue_word}
use Rattle.steps.specs.Step.{step_of}
use Rattle.steps.specs.StepText.{call_text, step_text, NineDigits, NineDigitCall}
use Rattle.steps.proofs.Theorems.{step_write_then_read}
use Rattle.step_words.specs.declared.Word.TheVariants.{WithNumber as of_number, WithCue as of_cue}
use Rattle.quick_words.specs.Row.{word_line}
use Rattle.quick_numbers.specs.declared.Short.{Short}
use Rattle.quick_numbers.specs.Short.{ShortStands}
use Rattle.quick_numbers.proofs.Laws.{digits_stand, field_stands}
use Rattle.scanning.specs.declared.Scanned.{Scanned}
use Rattle.scanning.specs.Scan.{Scans}
use Rattle.scanning.specs.Quick.{LineOf, Completes, RestFits, QuickFits}

-- ---- no byte of a step's line is an LF
none_number : (e : ℕ) → up_to 10 (digits_of e) ≡ length (digits_of e)
none_number e = none_digits 10 19 e (omega arith)

none_field : (e : ℕ) → up_to 10 (field_text e 44) ≡ length (field_text e 44)
none_field e = none_append 10 (digits_of e) (44 ∷ []) (none_number e) (none_one 10 44 (λ q. omega arith))

none_call : (e : ℕ) (c : CueNumbers) → up_to 10 (call_text e c) ≡ length (call_text e c)
unfolding call_text
none_call e c =
    none_append 10 (field_text e 44) _ (none_field e)
    (none_append 10 (field_text c.time 44) _ (none_field c.time)
    (none_append 10 (field_text c.«module» 44) _ (none_field c.«module») (none_number c.pin)))

none_number_word : (w : NumberWord) → up_to 10 (number_word w) ≡ length (number_word w)
unfolding up_to
none_number_word Begin = refl
none_number_word Min = refl
none_number_word Take = refl
none_number_word Commit = refl
none_number_word Undo = refl
none_number_word Back = refl

none_cue_word : (w : CueWord) → up_to 10 (cue_word w) ≡ length (cue_word w)
unfolding up_to
none_cue_word Add = refl
none_cue_word Remove = refl
none_cue_word Has = refl
none_cue_word Push = refl

none_behind_comma : (l : List ℕ) → up_to 10 l ≡ length l → up_to 10 (44 ∷ l) ≡ length (44 ∷ l)
none_behind_comma l e = none_append 10 (44 ∷ []) l (none_one 10 44 (λ q. omega arith)) e

none_line : (x : Step) → up_to 10 (step_text x) ≡ length (step_text x)
unfolding up_to
none_line (WithNumber w e) =
    none_append 10 (number_word w) _ (none_number_word w) (none_behind_comma (digits_of e) (none_number e))
none_line (WithCue w e c) =
    none_append 10 (cue_word w) _ (none_cue_word w) (none_behind_comma (call_text e c) (none_call e c))

-- ---- at the LF, at a place before, at the start
pub ended : (before s : List ℕ) (x : Step) (end : ℕ) → LineOf before x → end < length s → get_or s end 0 ≡ 10
    → Completes before s end (record { step = Some x; end = end })
ended before s x end l h e =
    let z : end - end ≡ 0 = omega arith in
    record { line = rw (z, append-nil before) l; from = omega arith; within = h; lf = e }

pub earlier : (before t s : List ℕ) (at q : ℕ) (r : Scanned) → q ≡ at + length t → Stands s at t
    → Completes (before ++ t) s q r → Completes before s at r
earlier before t s at q r e h c =
    let from : q ≤ r.end = c.from in
    let k : r.end - at ≡ length t + (r.end - q) = omega arith in
    let d : drop (length t) (drop at s) ≡ drop q s = drop-drop (length t) at s ∙ ap (λ (i : ℕ). drop i s) (sym e) in
    let p : take (r.end - at) (drop at s) ≡ t ++ take (r.end - q) (drop q s) =
    rw (k, take-add (length t) (r.end - q) (drop at s), d, h) refl in
    record {
      line =
          subst (λ (l : List ℕ). IsSomeAnd r.step (λ x. LineOf l x))
          (append_assoc before t (take (r.end - q) (drop q s)) ∙ ap (λ (l : List ℕ). before ++ l) (sym p))
          c.line;
      from = omega arith;
      within = c.within;
      lf = c.lf;
    }

-- a number and a byte before, and a number alone
module _ (before s : List ℕ) (at most : ℕ) (v : Short) (f : ShortStands s at most v) where
  pub field_earlier : (b : ℕ) (r : Scanned) → at + v.digits < length s → get_or s (at + v.digits) 0 ≡ b
      → Completes (before ++ field_text v.value b) s (at + v.digits + 1) r → Completes before s at r
  field_earlier b r l e c =
      let d = field_stands s at most v f b l e in
      earlier before (field_text v.value b) s at (at + v.digits + 1) r (omega (arith, d.1)) d.0 c

  pub number_earlier : (r : Scanned) → Completes (before ++ digits_of v.value) s (at + v.digits) r
      → Completes before s at r
  number_earlier r c =
      let d = digits_stand s at most v f in
      earlier before (digits_of v.value) s at (at + v.digits) r (omega (arith, d.1)) d.0 c

-- a step's line is read as that step
line_read : (t : List ℕ) (step : Option Step) → IsSomeAnd step (λ x. LineOf t x)
    → (step ≡ step_of t) × (up_to 10 t ≡ length t)
line_read t None l = elim l [ ]
line_read t (Some x) l = (
  sym (step_write_then_read x l.nine) ∙ ap (λ (u : List ℕ). step_of u) (sym l.text),
  rw l.text (none_line x),
)

pub scans : (s : List ℕ) (at : ℕ) (r : Scanned) → Completes [] s at r → Scans s at r
scans s at r c =
    let from : at ≤ r.end = c.from in
    let within : r.end < length s = c.within in
    let k = r.end - at in
    let t = take k (drop at s) in
    let n : length t ≡ k = length-take-le k (drop at s) (omega (arith, length-drop at s)) in
    let q : at + k ≡ r.end = omega arith in
    let rest : drop k (drop at s) ≡ 10 ∷ drop (suc r.end) s =
    drop-drop k at s ∙ (ap (λ (i : ℕ). drop i s) q ∙ (drop-cons s r.end 0 within ∙ rw c.lf refl)) in
    let all : drop at s ≡ t ++ 10 ∷ drop (suc r.end) s =
    sym (take-append-drop k (drop at s)) ∙ ap (λ (l : List ℕ). t ++ l) rest in
    let read = line_read t r.step c.line in
    let up : up_to 10 (drop at s) ≡ length t = ap (up_to 10) all ∙ up_append 10 t _ read.1 in
    record { end = omega (arith, up); step = read.0; within = omega arith }

-- ---- the lines of steps, as they are read
pub number_line : (w : NumberWord) (e : ℕ) → NineDigits e
    → LineOf (word_line (of_number w) ++ digits_of e) (WithNumber w e)
number_line w e n = record { text = append_assoc (number_word w) (44 ∷ []) (digits_of e); nine = n }

regroup : (a b c d e : List ℕ) → (((a ++ b) ++ c) ++ d) ++ e ≡ a ++ (b ++ (c ++ (d ++ e)))
regroup a b c d e = simp append_assoc

pub call_line : (w : CueWord) (e : ℕ) (c : CueNumbers) → NineDigitCall e c
    → LineOf ((((word_line (of_cue w) ++ field_text e 44) ++ field_text c.time 44) ++ field_text c.«module» 44)
    ++ digits_of c.pin)
    (WithCue w e c)
unfolding call_text
call_line w e c n = record {
  text = regroup (word_line (of_cue w)) _ _ _ _ ∙ append_assoc (cue_word w) (44 ∷ []) _;
  nine = n;
}

-- ---- what a look answers
-- a number and a byte before
pub rest_field : (before s : List ℕ) (at most b : ℕ) (v : Short) (r : Option Scanned) → ShortStands s at most v
    → at + v.digits < length s → get_or s (at + v.digits) 0 ≡ b
    → RestFits (before ++ field_text v.value b) s (at + v.digits + 1) r → RestFits before s at r
rest_field before s at most b v (Some r) f l e c = field_earlier before s at most v f b r l e c
rest_field before s at most b v None f l e c = tt

pub rest_scans : (t s : List ℕ) (at q : ℕ) (r : Option Scanned) → q ≡ at + length t → Stands s at t → RestFits t s q r
    → QuickFits s at r
rest_scans t s at q (Some r) e h c = scans s at r (earlier [] t s at q r e h c)
rest_scans t s at q None e h c = tt
