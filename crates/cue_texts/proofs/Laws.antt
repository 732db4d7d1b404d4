-- How long the text of a cue is. Assumes nothing.
use mathlib.Core.Path.{◌≡◌, ap, ◌∙◌}
use mathlib.Core.List.{◌++◌}
use Prim.Native.Nat.{ℕ, ◌+◌}
use lib.ListN.{length, length-append}
use native.Mathlib.Omega.{arith}
use Rattle.digits.specs.Digits.{digits_of}
use Rattle.records.specs.Record.{field_text}
use Rattle.records.proofs.Laws.{field_length}
use Rattle.cues.specs.declared.Cue.{Cue}
use Rattle.cue_texts.specs.CueText.{cue_text}

pub text_length : (c : Cue)
    → length (cue_text c)
    ≡ length (field_text c.time 44) + (length (field_text c.«module» 44) + length (field_text c.pin 10))
unfolding cue_text
text_length c =
    length-append (field_text c.time 44) (field_text c.«module» 44 ++ field_text c.pin 10)
    ∙ ap (λ (n : ℕ). length (field_text c.time 44) + n)
    (length-append (field_text c.«module» 44) (field_text c.pin 10))

pub text_counted : (c : Cue) → length (digits_of c.time) + length (digits_of c.«module») + length (digits_of c.pin) + 3
    ≡ length (cue_text c)
text_counted c =
    omega (arith, text_length c, field_length c.time 44, field_length c.«module» 44, field_length c.pin 10)
