-- Laws of cue lines: the cue of the numbers in their fields, and a line with too few fields. Assumes nothing.
use mathlib.Core.Path.{◌≡◌, refl, sym, ap, ◌∙◌}
use mathlib.Core.List.{List, []}
use mathlib.Core.Logic.{⊎_elim}
use Prim.Native.Nat.{ℕ, ◌+◌, ◌-◌}
use native.Mathlib.Omega.{arith}
use lib.ListN.{length, take, drop, length-drop, drop_of_length-le}
use lib.Seq.{take_all}
use Rattle.lines.specs.Lines.{up_to}
use Rattle.numbers.specs.declared.Field.{Field}
use Rattle.numbers.specs.Field.{field, others, InnerField, NoInnerField}
use Rattle.numbers.specs.Number.{number_of}
use Rattle.std.specs.Prelude.{Option, Some, None}
use Rattle.cues.specs.declared.CueNumbers.{CueNumbers}
use Rattle.cue_lines.specs.CueLine.{three_numbers, fields_of}

-- three numbers, as a cue's
abbrev pub numbers_of : ℕ → ℕ → ℕ → Option CueNumbers
numbers_of t m p = Some (record { time = t; «module» = m; pin = p })

pub number_nil : number_of [] ≡ None
unfolding number_of
number_nil = refl

others_none : (l : List ℕ) → up_to 44 l ≡ length l → others l ≡ []
others_none l e = drop_of_length-le l {i = up_to 44 l + 1} (omega arith)

others_nil : others [] ≡ []
unfolding up_to
others_nil = refl

-- ---- too few fields
no_first : (x y z : Option ℕ) → x ≡ None → three_numbers x y z ≡ None
no_first x y z e = rw e

no_second : (x y z : Option ℕ) → y ≡ None → three_numbers x y z ≡ None
no_second None y z e = refl
no_second (Some t) y z e = rw e

no_third : (x y z : Option ℕ) → z ≡ None → three_numbers x y z ≡ None
no_third None y z e = refl
no_third (Some t) None z e = refl
no_third (Some t) (Some m) z e = rw e

-- nothing stands behind the second field
no_last : (l : List ℕ) → others (others l) ≡ [] → fields_of l ≡ None
unfolding fields_of
no_last l e = no_third _ _ _ (ap number_of e ∙ number_nil)

pub one_comma : (l : List ℕ) → up_to 44 (others l) ≡ length (others l) → fields_of l ≡ None
one_comma l e = no_last l (others_none (others l) e)

pub no_comma : (l : List ℕ) → up_to 44 l ≡ length l → fields_of l ≡ None
no_comma l e = no_last l (ap others (others_none l e) ∙ others_nil)

-- ---- as the code reads a line: a first field, a second, and what is left
pub first_missing : (l : List ℕ) → NoInnerField l 0 → None ≡ fields_of l
unfolding fields_of
first_missing l n =
    sym (⊎_elim (no_first _ _ _) (λ e. no_last l (ap others e ∙ others_nil)) n.nothing)

pub second_missing : (l : List ℕ) (time : Field) → InnerField l 0 time → NoInnerField l (time.end + 1) → None ≡ fields_of l
unfolding fields_of
second_missing l time t n =
    sym
    (⊎_elim
    (λ e. no_second _ _ _ (ap (λ (s : List ℕ). number_of (field s)) (sym t.behind) ∙ e))
    (λ e. no_last l (ap others (sym t.behind) ∙ e))
    n.nothing)

module _ (l : List ℕ) (time «module» : Field) (t : InnerField l 0 time) (m : InnerField l (time.end + 1) «module») where
  third : take (length l - («module».end + 1)) (drop («module».end + 1) l) ≡ others (others l)
  third =
      let rest = drop («module».end + 1) l in
      take_all (length l - («module».end + 1)) rest (omega (arith, length-drop («module».end + 1) l))
      ∙ (m.behind ∙ ap others t.behind)

  pub third_missing : number_of (take (length l - («module».end + 1)) (drop («module».end + 1) l)) ≡ None → None ≡ fields_of l
  unfolding fields_of
  third_missing e = sym (no_third _ _ _ (ap number_of (sym third) ∙ e))

  pub three_read : (pin : ℕ) → number_of (take (length l - («module».end + 1)) (drop («module».end + 1) l)) ≡ Some pin
      → numbers_of time.value «module».value pin ≡ fields_of l
  unfolding fields_of
  three_read pin e =
      let second = ap (λ (s : List ℕ). number_of (field s)) (sym t.behind) ∙ m.number in
      rw (t.number, second, ap number_of (sym third) ∙ e) refl

pub ruleset field_rules = (first_missing, second_missing, third_missing, three_read)
