-- The text of a cue: its body and its LF, how long it is, and that no LF stands before its end. Assumes nothing.
use mathlib.Core.Path.{◌≡◌, sym, ◌∙◌}
use mathlib.Core.List.{List, [], ◌∷◌, ◌++◌, append_assoc, append-nil}
use Prim.Native.Nat.{ℕ}
use native.Mathlib.Omega.{arith}
use lib.ListN.{length}
use Rattle.lines.specs.Lines.{up_to}
use Rattle.lines.proofs.Laws.{none_append, none_one}
use Rattle.digits.specs.Digits.{digits_of}
use Rattle.digits.proofs.Laws.{none_digits, digits_at_most}
use Rattle.records.specs.Record.{field_text}
use Rattle.records.proofs.Laws.{field_length}
use Rattle.cues.specs.declared.Cue.{Cue}
use Rattle.cues.proofs.Laws.{bounds}
use Rattle.cue_texts.specs.CueText.{cue_body, cue_text}
use Rattle.cue_texts.specs.Theorems.{BodyThenLf, CueLineShort, CueLineNoLf}
use Rattle.cue_texts.proofs.Laws.{text_length}

pub body_text : (c : Cue) (r : List ℕ) → cue_text c ++ r ≡ cue_body c ++ 10 ∷ r
unfolding cue_text cue_body
body_text c r = simp append_assoc

pub body_then_lf : BodyThenLf
body_then_lf c = sym (append-nil (cue_text c)) ∙ body_text c []

pub body_fields : (c : Cue) → cue_body c ≡ digits_of c.time ++ 44 ∷ (digits_of c.«module» ++ 44 ∷ digits_of c.pin)
unfolding cue_body
body_fields c = simp append_assoc

-- the digits of a number and the comma hold no LF
pub cue_line_no_lf : CueLineNoLf
unfolding cue_body
cue_line_no_lf c =
    none_append 10 (field_text c.time 44) (field_text c.«module» 44 ++ digits_of c.pin) (field_none c.time)
    (none_append 10 (field_text c.«module» 44) (digits_of c.pin) (field_none c.«module»)
    (none_digits 10 19 c.pin (omega arith)))
  where
    field_none : (n : ℕ) → up_to 10 (field_text n 44) ≡ length (field_text n 44)
    field_none n =
        none_append 10 (digits_of n) (44 ∷ []) (none_digits 10 19 n (omega arith)) (none_one 10 44 (λ e. omega arith))

pub cue_line_short : CueLineShort
cue_line_short c r =
    let b = bounds c.time c.«module» c.pin r in
    let t = digits_at_most 6 19 c.time (omega arith) in
    let m = digits_at_most 1 19 c.«module» (omega arith) in
    let p = digits_at_most 1 19 c.pin (omega arith) in
    omega (arith, text_length c, field_length c.time 44, field_length c.«module» 44, field_length c.pin 10)
