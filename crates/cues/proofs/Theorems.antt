-- Keys keep the order of cues and give them back. Assumes nothing.
use mathlib.Core.Path.{◌≡◌, sym, ap, ◌∙◌}
use mathlib.Core.Logic.{inl, inr, ⊎_elim}
use native.Mathlib.Decide.{dec_lt}
use native.Mathlib.Omega.{arith}
use Rattle.cues.specs.declared.Cue.{Cue}
use Rattle.cues.specs.Cue.{in_range, key_of, cue_of}
use Rattle.cues.specs.Theorems.{KeyKeepsOrder, KeyOneToOne, KeyGivesCue, KeyIsCueKey}
use Rattle.cues.proofs.Laws.{bounds}

same_cue : (a b : Cue) → a.time ≡ b.time → a.«module» ≡ b.«module» → a.pin ≡ b.pin → a ≡ b
same_cue a b t m p = λ i. record { time = t i; «module» = m i; pin = p i }

pub key_gives_cue : KeyGivesCue
key_gives_cue c r =
    let b = bounds c.time c.«module» c.pin r in
    same_cue (cue_of (key_of c)) c (omega arith) (omega arith) (omega arith)

pub key_one_to_one : KeyOneToOne
key_one_to_one a b ra rb e = sym (key_gives_cue a ra) ∙ (ap cue_of e ∙ key_gives_cue b rb)

pub key_is_cue_key : KeyIsCueKey
key_is_cue_key c r =
    let e = key_gives_cue c r in
    record { in_range = ap (λ (x : Cue). in_range x.time x.«module» x.pin) e ∙ r; is_key = ap key_of e }

pub key_keeps_order : KeyKeepsOrder
key_keeps_order a b ra rb =
    let x = bounds a.time a.«module» a.pin ra in
    let y = bounds b.time b.«module» b.pin rb in (
      (λ h. ⊎_elim (λ t. omega arith) (λ t. ⊎_elim (λ m. omega arith) (λ m. omega arith) t.1) h),
      (λ h.
          elim (dec_lt a.time b.time) [
            | yes t ↦ inl t
            | no t ↦ inr (
              omega arith,
              elim (dec_lt a.«module» b.«module») [
                | yes m ↦ inl m
                | no m ↦ inr (omega arith, omega arith)
              ],
            )
          ]),
    )
