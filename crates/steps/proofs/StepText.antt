-- Laws of the text of a step: the fields that are written are those that are read, and the other way round.
-- Assumes nothing.
use mathlib.Core.Path.{◌≡◌, refl, sym, ap, ◌∙◌}
use mathlib.Core.Bool.{Bool, true, false, cond}
use mathlib.Core.List.{List, [], ◌∷◌, ◌++◌, append_assoc}
use mathlib.Core.Logic.{◌⊎◌, inl, inr, ⊎_elim}
use Prim.Native.Nat.{ℕ, suc, ◌+◌}
use native.Mathlib.Numerals.{add-one}
use native.Mathlib.Omega.{arith}
use lib.Dec.{eqb}
use lib.ListN.{length, take, drop}
use lib.Seq.{take-append_seam, drop-append-add}
use borrow.Author.Tests.{eqb-true}
use Rattle.lines.specs.Lines.{up_to}
use Rattle.lines.proofs.Laws.{up_append}
use Rattle.digits.specs.Digits.{digits_of}
use Rattle.numbers.specs.Number.{number_of}
use Rattle.std.specs.Prelude.{Option, Some, None}
use Rattle.digits.proofs.Laws.{none_digits}
use Rattle.numbers.proofs.Theorems.{write_then_read, read_is_canonical}
use Rattle.numbers.specs.Field.{field, others}
use Rattle.cue_lines.specs.CueLine.{three_numbers, fields_of}
use Rattle.cue_lines.proofs.Laws.{numbers_of}
use Rattle.cues.specs.declared.CueNumbers.{CueNumbers}
use Rattle.step_words.specs.declared.NumberWord.{NumberWord}
use Rattle.step_words.specs.declared.CueWord.{CueWord}
use Rattle.steps.specs.declared.reading.Step.TheVariants.{WithNumber, WithCue}
use Rattle.steps.specs.Step.{numbered, cued}
use Rattle.steps.specs.StepText.{call_text, NineDigits, NineDigitCall}
use Rattle.cue_lines.proofs.Laws.{number_nil}

-- ---- written, then read
module _ (n : ℕ) (r : List ℕ) where
  to_comma : up_to 44 (digits_of n ++ 44 ∷ r) ≡ length (digits_of n)
  to_comma = up_append 44 (digits_of n) r (none_digits 44 19 n (omega arith))

  first_read : NineDigits n → number_of (field (digits_of n ++ 44 ∷ r)) ≡ Some n
  first_read h = rw to_comma (ap number_of (take-append_seam (digits_of n) (44 ∷ r)) ∙ write_then_read n h)

  others_read : others (digits_of n ++ 44 ∷ r) ≡ r
  others_read = rw to_comma (drop-append-add (digits_of n) (44 ∷ r) 1)

cue_read : (t m p : ℕ) → NineDigits t → NineDigits m → NineDigits p
    → fields_of (digits_of t ++ 44 ∷ (digits_of m ++ 44 ∷ digits_of p)) ≡ numbers_of t m p
unfolding fields_of
cue_read t m p ht hm hp =
    let rest = digits_of m ++ 44 ∷ digits_of p in
    let o = others_read t rest in
    let vm : number_of (field (others (digits_of t ++ 44 ∷ rest))) ≡ Some m =
    ap (λ (l : List ℕ). number_of (field l)) o ∙ first_read m (digits_of p) hm in
    let vp : number_of (others (others (digits_of t ++ 44 ∷ rest))) ≡ Some p =
    ap number_of (ap others o ∙ others_read m (digits_of p)) ∙ write_then_read p hp in
    rw (first_read t rest ht, vm, vp)

call_fields : (e : ℕ) (c : CueNumbers)
    → call_text e c ≡ digits_of e ++ 44 ∷ (digits_of c.time ++ 44 ∷ (digits_of c.«module» ++ 44 ∷ digits_of c.pin))
unfolding call_text
call_fields e c = simp append_assoc

pub number_written : (k : NumberWord) (e : ℕ) → NineDigits e → numbered k (number_of (digits_of e)) ≡ Some (WithNumber k e)
number_written k e h = rw (write_then_read e h)

pub call_written : (k : CueWord) (e : ℕ) (c : CueNumbers) → NineDigitCall e c
    → cued k (number_of (field (call_text e c))) (fields_of (others (call_text e c))) ≡ Some (WithCue k e c)
call_written k e c h =
    let cue = digits_of c.time ++ 44 ∷ (digits_of c.«module» ++ 44 ∷ digits_of c.pin) in
    let v : number_of (field (call_text e c)) ≡ Some e =
    ap (λ (l : List ℕ). number_of (field l)) (call_fields e c) ∙ first_read e cue h.transaction in
    let f : fields_of (others (call_text e c)) ≡ numbers_of c.time c.«module» c.pin =
    ap fields_of (ap others (call_fields e c) ∙ others_read e cue)
    ∙ cue_read c.time c.«module» c.pin h.time h.«module» h.pin in
    rw (v, f)

-- ---- read, then written
-- a line is what stands before its first comma, the comma, and what stands behind it; without one nothing stands behind
split : (l : List ℕ) → (l ≡ field l ++ 44 ∷ others l) ⊎ (others l ≡ [])
unfolding up_to
split [] = inr refl
split (b ∷ l) = by_test (eqb b 44) refl (split l)
  where
    by_test : (t : Bool) → eqb b 44 ≡ t → (l ≡ field l ++ 44 ∷ others l) ⊎ (others l ≡ [])
        → (b ∷ l ≡ take (cond t 0 (suc (up_to 44 l))) (b ∷ l) ++ 44 ∷ drop (cond t 0 (suc (up_to 44 l)) + 1) (b ∷ l))
        ⊎ (drop (cond t 0 (suc (up_to 44 l)) + 1) (b ∷ l) ≡ [])
    by_test true e more = inl (ap (λ (x : ℕ). x ∷ l) (eqb-true b 44 e))
    by_test false e more =
        rw add-one
        (⊎_elim
        (λ q. inl (ap (λ (x : List ℕ). b ∷ x) (q ∙ rw add-one)))
        (λ q. inr (rw add-one at q))
        more)

pub at_comma : (l : List ℕ) → (others l ≡ [] → ⊥) → l ≡ field l ++ 44 ∷ others l
at_comma l some = ⊎_elim (λ e. e) (λ e. absurd (some e)) (split l)

pub not_nil : (l : List ℕ) (n : ℕ) → number_of l ≡ Some n → l ≡ [] → ⊥
not_nil l n v e = let w : Some n ≡ None = sym v ∙ (ap number_of e ∙ number_nil) in cc

others_not_nil : (l : List ℕ) → (others l ≡ [] → ⊥) → l ≡ [] → ⊥
unfolding up_to
others_not_nil l some e = some (ap others e)

three_values : (x y z : Option ℕ) (cue : CueNumbers) → three_numbers x y z ≡ Some cue
    → (x ≡ Some cue.time) × (y ≡ Some cue.«module») × (z ≡ Some cue.pin)
three_values None y z cue e = absurd (cc)
three_values (Some a) None z cue e = absurd (cc)
three_values (Some a) (Some b) None cue e = absurd (cc)
three_values (Some a) (Some b) (Some c) cue e =
    let same : ◌≡◌ {A = CueNumbers} (record { time = a; «module» = b; pin = c }) cue = cc in (
      ap (λ (n : CueNumbers). Some n.time) same,
      ap (λ (n : CueNumbers). Some n.«module») same,
      ap (λ (n : CueNumbers). Some n.pin) same,
    )

-- the fields `e,t,m,p` are the text of their numbers, and there are such fields
pub call_canonical : (r : List ℕ) (e : ℕ) (cue : CueNumbers) → number_of (field r) ≡ Some e
    → fields_of (others r) ≡ Some cue → (r ≡ call_text e cue) × NineDigitCall e cue × (r ≡ [] → ⊥)
unfolding fields_of
call_canonical r e cue ve f =
    let y = others r in
    let v = three_values (number_of (field y)) (number_of (field (others y))) (number_of (others (others y))) cue f in
    let ce = read_is_canonical (field r) e ve in
    let ct = read_is_canonical (field y) cue.time v.0 in
    let cm = read_is_canonical (field (others y)) cue.«module» v.1 in
    let cp = read_is_canonical (others (others y)) cue.pin v.2 in
    let some_p = not_nil (others (others y)) cue.pin v.2 in
    let some_m = others_not_nil (others y) some_p in
    let some_y = others_not_nil y some_m in
    let sr = at_comma r some_y in
    let sy = at_comma y some_m in
    let sm = at_comma (others y) some_p in
    let all
    : r ≡ digits_of e ++ 44 ∷ (digits_of cue.time ++ 44 ∷ (digits_of cue.«module» ++ 44 ∷ digits_of cue.pin))
    = cc (sr, sy, sm, ce.0, ct.0, cm.0, cp.0) in (
      all ∙ sym (call_fields e cue),
      record { transaction = ce.1; time = ct.1; «module» = cm.1; pin = cp.1 },
      others_not_nil r some_y,
    )
