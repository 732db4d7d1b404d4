-- Laws of the text of an answer: it can be read back, and its only LF ends it. Assumes nothing.
use mathlib.Core.Path.{◌≡◌, refl, ap, ◌∙◌}
use mathlib.Core.Bool.{cond}
use mathlib.Core.List.{List, [], ◌∷◌, ◌++◌, append_assoc}
use Prim.Native.Nat.{ℕ, ◌+◌, ◌-◌, ◌<◌}
use native.Mathlib.Omega.{arith}
use lib.Dec.{eqb}
use lib.ListN.{length, get_or, take, drop, length-append}
use lib.Seq.{take-append_seam, drop-append-add}
use Rattle.lines.specs.Ascii.{bytes}
use Rattle.lines.specs.Lines.{up_to}
use Rattle.lines.proofs.Laws.{up_append, none_append}
use Rattle.digits.specs.Digits.{digits_at, digits_of}
use Rattle.numbers.specs.Number.{value_from}
use Rattle.std.specs.Prelude.{Option, Some, None}
use Rattle.digits.proofs.Laws.{none_digits}
use Rattle.numbers.proofs.Theorems.{every_number}
use Rattle.records.specs.Record.{field_text, record_text}
use Rattle.refusals.specs.Refusal.{refusal_number}
use Rattle.refusals.specs.declared.Refusal.{Refusal}
use Rattle.refusals.specs.declared.Refusal.TheVariants.{
  Malformed,
  TransactionOutOfRange,
  AlreadyBegun,
  NotBegun,
  Aborting,
  NotAborting,
  CueOutOfRange,
  Blocked,
  LocksFull,
  UndoLogFull,
  ScriptFull,
  QueueFull,
  TextTooLong,
  BufferTooShort,
}
use Rattle.cues.specs.declared.Cue.{Cue as CueRecord}
use Rattle.cue_texts.specs.CueText.{cue_body, cue_text}
use Rattle.cue_texts.proofs.Theorems.{body_then_lf, cue_line_no_lf}
use Rattle.answers.specs.declared.Answer.{Answer}
use Rattle.answers.specs.declared.Answer.TheVariants.{Ok, Yes, No, Empty, Cue, Left, Refused}
use Rattle.answers.specs.Answer.{refusal_text, answer_text}
use Rattle.answers.specs.Theorems.{Fits, AnswerFits}

-- ---- a number, and what stands behind the byte that ends it
abbrev value_of : Option ℕ → ℕ
value_of (Some n) = n
value_of None = 0

abbrev number_to : ℕ → List ℕ → ℕ
number_to sep l = value_of (value_from 0 (take (up_to sep l) l))

abbrev behind : ℕ → List ℕ → List ℕ
behind sep l = drop (up_to sep l + 1) l

module _ (sep n : ℕ) (r : List ℕ) (h : sep < 48) where
  ends : up_to sep (digits_of n ++ sep ∷ r) ≡ length (digits_of n)
  ends = up_append sep (digits_of n) r (none_digits sep 19 n h)

  number_back : Fits n → number_to sep (digits_of n ++ sep ∷ r) ≡ n
  number_back f =
      rw ends (ap (λ (l : List ℕ). value_of (value_from 0 l)) (take-append_seam (digits_of n) (sep ∷ r))
      ∙ ap value_of (every_number n f))

  behind_back : behind sep (digits_of n ++ sep ∷ r) ≡ r
  behind_back = rw ends (drop-append-add (digits_of n) (sep ∷ r) 1)

-- ---- a cue
abbrev cue_back : List ℕ → CueRecord
cue_back l = record {
  time = number_to 44 l;
  «module» = number_to 44 (behind 44 l);
  pin = number_to 10 (behind 44 (behind 44 l));
}

cue_fields : (c : CueRecord)
    → cue_text c ≡ digits_of c.time ++ 44 ∷ (digits_of c.«module» ++ 44 ∷ (digits_of c.pin ++ 10 ∷ []))
unfolding cue_text
cue_fields c = simp append_assoc

cue_back_lem : (c : CueRecord) → Fits c.time × Fits c.«module» × Fits c.pin → cue_back (cue_text c) ≡ c
cue_back_lem c f =
    let p = digits_of c.pin ++ 10 ∷ [] in
    let m = digits_of c.«module» ++ 44 ∷ p in
    let e = cue_fields c in
    let bt : behind 44 (cue_text c) ≡ m = ap (behind 44) e ∙ behind_back 44 c.time m (omega arith) in
    let bm : behind 44 (behind 44 (cue_text c)) ≡ p =
    ap (behind 44) bt ∙ behind_back 44 c.«module» p (omega arith) in
    let t = ap (number_to 44) e ∙ number_back 44 c.time m (omega arith) f.0 in
    let u = ap (number_to 44) bt ∙ number_back 44 c.«module» p (omega arith) f.1 in
    let v = ap (number_to 10) bm ∙ number_back 10 c.pin [] (omega arith) f.2 in
    λ i. record { time = t i; «module» = u i; pin = v i }

-- ---- a refusal
-- by its row; 8 stands for itself, and is read otherwise
abbrev rows : List Refusal
rows =
    Malformed ∷ TransactionOutOfRange ∷ AlreadyBegun ∷ NotBegun ∷ Aborting ∷ NotAborting ∷ CueOutOfRange ∷ Blocked 0
    ∷ LocksFull ∷ UndoLogFull ∷ ScriptFull ∷ QueueFull ∷ TextTooLong ∷ []

-- a comma behind the first digit: 8, and the edit in the way
abbrev refusal_back : List ℕ → Refusal
refusal_back l =
    cond (eqb (get_or l 1 0) 44) (Blocked (number_to 10 (drop 2 l)))
    (get_or rows (number_to 10 l - 1) BufferTooShort)

blocked_fields : (e : ℕ) → refusal_text (Blocked e) ≡ bytes "refused,8," ++ (digits_of e ++ 10 ∷ [])
unfolding refusal_text record_text digits_at
blocked_fields e = refl

refusal_back_lem : (r : Refusal) → ((e : ℕ) → r ≡ Blocked e → Fits e) → refusal_back (drop 8 (refusal_text r)) ≡ r
unfolding refusal_text digits_at value_from up_to
refusal_back_lem (Blocked e) f =
    ap (λ (l : List ℕ). refusal_back (drop 8 l)) (blocked_fields e)
    ∙ ap Blocked (number_back 10 e [] (omega arith) (f e refl))
refusal_back_lem _ f = refl

-- ---- an answer, by the first byte of its line
abbrev pub answer_back : List ℕ → Answer
answer_back l =
    cond (eqb (get_or l 0 0) 111) Ok
    (cond (eqb (get_or l 0 0) 121) Yes
    (cond (eqb (get_or l 0 0) 110) No
    (cond (eqb (get_or l 0 0) 101) Empty
    (cond (eqb (get_or l 0 0) 99) (Cue (cue_back (drop 4 l)))
    (cond (eqb (get_or l 0 0) 108) (Left (number_to 10 (drop 5 l)))
    (Refused (refusal_back (drop 8 l))))))))

refused_first : (r : Refusal) → get_or (refusal_text r) 0 0 ≡ 114
unfolding refusal_text record_text
refused_first (Blocked e) = refl
refused_first _ = refl

pub answer_back_lem : (a : Answer) → AnswerFits a → answer_back (answer_text a) ≡ a
answer_back_lem (Cue c) f = ap Cue (cue_back_lem c f)
answer_back_lem (Left n) f = ap Left (number_back 10 n [] (omega arith) f)
answer_back_lem (Refused r) f = rw (refused_first r) (ap Refused (refusal_back_lem r f))
answer_back_lem _ f = refl

-- ---- the LF at the end of a line
ends_line : (d : List ℕ) → up_to 10 d ≡ length d → up_to 10 (d ++ 10 ∷ []) + 1 ≡ length (d ++ 10 ∷ [])
ends_line d e = omega (arith, up_append 10 d [] e, length-append d (10 ∷ []))

digits_line : (w : List ℕ) (n : ℕ) → up_to 10 w ≡ length w
    → up_to 10 (w ++ field_text n 10) + 1 ≡ length (w ++ field_text n 10)
digits_line w n e =
    rw (← append_assoc w (digits_of n) (10 ∷ []))
    (ends_line (w ++ digits_of n) (none_append 10 w (digits_of n) e (none_digits 10 19 n (omega arith))))

refusal_line : (r : Refusal) → up_to 10 (refusal_text r) + 1 ≡ length (refusal_text r)
unfolding refusal_text up_to
refusal_line (Blocked e) = rw (blocked_fields e) (digits_line (bytes "refused,8,") e refl)
refusal_line r = digits_line (bytes "refused,") (refusal_number r) refl

pub answer_line : (a : Answer) → up_to 10 (answer_text a) + 1 ≡ length (answer_text a)
unfolding up_to
answer_line (Cue c) =
    rw (body_then_lf c)
    (ends_line (bytes "cue," ++ cue_body c) (none_append 10 (bytes "cue,") (cue_body c) refl (cue_line_no_lf c)))
answer_line (Left n) = digits_line (bytes "left,") n refl
answer_line (Refused r) = refusal_line r
answer_line _ = refl
