-- Laws of the step that a word and its fields make, as the code finds them one after the other. Assumes nothing.
use Rattle.std.proofs.Common.{◌≡◌, ℕ, List, [], ◌+◌, ◌-◌, length, take, drop, refl, sym, ap, ◌∙◌, arith, length-drop}
use mathlib.Core.Logic.{⊎_elim}
use lib.ListN.{drop_of_length-le}
use lib.Seq.{take_all}
use Rattle.std.specs.Prelude.{suc, ◌<◌, ◌≤◌, ◌==◌, ◌∷◌, nat_lt, Bool, true, false, not, cond, position}
use Rattle.std.specs.Prelude.{Option, Some, None, MatchOption}
use Rattle.std.specs.List.{position_or_len}
use Rattle.std.specs.Option.{option_and_then}
use Rattle.lines.specs.Lines.{up_to}
use Rattle.lines.proofs.Laws.{up_le}
use Rattle.numbers.specs.declared.Field.{Field}
use Rattle.numbers.specs.Field.{field, others, InnerField, NoInnerField}
use Rattle.numbers.specs.Number.{number_of}
use Rattle.cue_lines.specs.CueLine.{fields_of}
use Rattle.cue_lines.proofs.Laws.{no_comma}
use Rattle.cues.specs.declared.CueNumbers.{CueNumbers}
use Rattle.step_words.specs.declared.CueWord.{CueWord}
use Rattle.step_words.specs.declared.Word.{Word}
use Rattle.step_words.specs.declared.Word.TheVariants.{WithNumber as of_number, WithCue as of_cue}
use Rattle.step_words.specs.Word.{word_of}
use Rattle.cue_lines.proofs.Laws.{number_nil}
use Rattle.steps.specs.declared.reading.Step.TheVariants.{WithCue}
use Rattle.steps.specs.Step.{cued, step_with, step_of}

fields_nil : fields_of [] ≡ None
unfolding up_to
fields_nil = no_comma [] refl

-- what stands behind the last field of a line
past : (l : List ℕ) (a : ℕ) → a ≡ length l → drop (a + 1) l ≡ []
past l a e = drop_of_length-le l {i = a + 1} (omega arith)

-- ---- the fields `e,t,m,p`
no_number : (w : CueWord) (e : Option ℕ) (cue : Option CueNumbers) → e ≡ None → cued w e cue ≡ None
no_number w e cue q = rw q

no_cue : (w : CueWord) (e : Option ℕ) (cue : Option CueNumbers) → cue ≡ None → cued w e cue ≡ None
no_cue w (Some e) cue q = rw q
no_cue w None cue q = refl

module _ (w : CueWord) (l : List ℕ) where
  pub transaction_missing : NoInnerField l 0 → None ≡ cued w (number_of (field l)) (fields_of (others l))
  transaction_missing n =
      sym (⊎_elim (no_number w _ _) (λ e. no_cue w _ _ (ap fields_of e ∙ fields_nil)) n.nothing)

  module _ (e : Field) (read : InnerField l 0 e) where
    behind : take (length l - (e.end + 1)) (drop (e.end + 1) l) ≡ others l
    behind =
        let rest = drop (e.end + 1) l in
        take_all (length l - (e.end + 1)) rest (omega (arith, length-drop (e.end + 1) l)) ∙ read.behind

    pub cue_missing : fields_of (take (length l - (e.end + 1)) (drop (e.end + 1) l)) ≡ None
        → None ≡ cued w (number_of (field l)) (fields_of (others l))
    cue_missing q = sym (no_cue w _ _ (ap fields_of (sym behind) ∙ q))

    pub cue_read : (cue : CueNumbers) → fields_of (take (length l - (e.end + 1)) (drop (e.end + 1) l)) ≡ Some cue
        → Some (WithCue w e.value cue) ≡ cued w (number_of (field l)) (fields_of (others l))
    cue_read cue q = rw (read.number, ap fields_of (sym behind) ∙ q) refl

pub ruleset cue_rules = (transaction_missing, cue_missing, cue_read)

-- ---- a line with no comma
with_nil : (w : Option Word) → option_and_then (λ word. step_with word []) w ≡ None
unfolding up_to
with_nil (Some (of_number w)) = rw number_nil
with_nil (Some (of_cue w)) = rw number_nil
with_nil None = refl

pub no_fields : (l : List ℕ) → up_to 44 l ≡ length l → None ≡ step_of l
no_fields l e = sym (rw (past l (up_to 44 l) e) (with_nil (word_of (field l))))

-- ---- the first comma, as `position` finds it
abbrev pub is_comma : ℕ → Bool
is_comma byte = byte == 44

up_to-is : (l : List ℕ) → position_or_len is_comma l ≡ up_to 44 l
unfolding up_to
up_to-is [] = refl
up_to-is (b ∷ bs) = one (b == 44) (up_to-is bs)
  where
    one : (t : Bool) {n m : ℕ} → n ≡ m → cond (not t) (1 + n) 0 ≡ cond t 0 (suc m)
    one true e = refl
    one false e = omega arith

found_below : (n m : ℕ) (t : Bool) → n ≤ m → nat_lt n m ≡ t
    → MatchOption (cond t (Some n) None) (n ≡ m) (λ i. (i ≡ n) × (i < m))
found_below n m true h q = (refl, grind arith)
found_below n m false h q = grind arith

pub comma_found : (l : List ℕ) (r : Option ℕ) → r ≡ position is_comma l
    → MatchOption r (up_to 44 l ≡ length l) (λ i. (i ≡ up_to 44 l) × (i < length l))
comma_found l r e = rw (e, up_to-is l) (found_below (up_to 44 l) (length l) _ (up_le 44 l) refl)
