-- A step's line stands for that step and is its only line. Assumes nothing.
use mathlib.Core.Path.{◌≡◌, refl, subst}
use mathlib.Core.List.{List, ◌∷◌, ◌++◌}
use Prim.Native.Nat.{ℕ}
use Rattle.std.specs.Prelude.{Option, Some, None}
use Rattle.std.specs.Option.{option_and_then}
use Rattle.lines.specs.Lines.{up_to}
use Rattle.digits.specs.Digits.{digits_of}
use Rattle.numbers.specs.Number.{number_of}
use Rattle.numbers.proofs.Theorems.{read_is_canonical}
use Rattle.numbers.specs.Field.{field, others}
use Rattle.cue_lines.specs.CueLine.{fields_of}
use Rattle.cues.specs.declared.CueNumbers.{CueNumbers}
use Rattle.step_words.specs.declared.NumberWord.{NumberWord}
use Rattle.step_words.specs.declared.NumberWord.TheVariants.{
  Begin as begin,
  Min as min,
  Take as take,
  Commit as commit,
  Undo as undo,
  Back as back,
}
use Rattle.step_words.specs.declared.CueWord.{CueWord}
use Rattle.step_words.specs.declared.CueWord.TheVariants.{
  Add as add,
  Remove as remove,
  Has as has,
  Push as push,
}
use Rattle.step_words.specs.declared.Word.{Word}
use Rattle.step_words.specs.declared.Word.TheVariants.{WithNumber as of_number, WithCue as of_cue}
use Rattle.steps.specs.declared.reading.Step.{Step}
use Rattle.steps.specs.declared.reading.Step.TheVariants.{WithNumber, WithCue}
use Rattle.step_words.specs.Word.{number_word, cue_word, word_of}
use Rattle.steps.specs.Step.{numbered, cued, step_with, step_of}
use Rattle.steps.specs.StepText.{call_text, step_text, NineDigits, NineDigitCall, NineDigitStep}
use Rattle.steps.specs.Theorems.{StepWriteThenRead, EmptyLineIsNoStep, StepReadIsCanonical}
use Rattle.step_words.proofs.WordText.{is_word}
use Rattle.steps.proofs.StepText.{number_written, call_written}
use Rattle.steps.proofs.StepText.{at_comma, not_nil, call_canonical}

-- the text of a word is read as that word
number_line : (k : NumberWord) (e : ℕ) → NineDigits e → step_of (number_word k ++ 44 ∷ digits_of e) ≡ Some (WithNumber k e)
unfolding up_to word_of
number_line begin e h = number_written begin e h
number_line min e h = number_written min e h
number_line take e h = number_written take e h
number_line commit e h = number_written commit e h
number_line undo e h = number_written undo e h
number_line back e h = number_written back e h

call_line : (k : CueWord) (e : ℕ) (c : CueNumbers) → NineDigitCall e c
    → step_of (cue_word k ++ 44 ∷ call_text e c) ≡ Some (WithCue k e c)
unfolding up_to word_of
call_line add e c h = call_written add e c h
call_line remove e c h = call_written remove e c h
call_line has e c h = call_written has e c h
call_line push e c h = call_written push e c h

pub step_write_then_read : StepWriteThenRead
unfolding up_to word_of
step_write_then_read (WithNumber k e) h = number_line k e h
step_write_then_read (WithCue k e c) h = call_line k e c h

-- the line is the step's one text
abbrev Canonical : List ℕ → Step → Type 0
Canonical l s = (l ≡ step_text s) × NineDigitStep s

-- by the word, and by what was read behind it
by_number : (l : List ℕ) (k : NumberWord) (x : Option ℕ) (s : Step) → field l ≡ number_word k → number_of (others l) ≡ x
    → numbered k x ≡ Some s → Canonical l s
by_number l k None s w v read = absurd (cc)
by_number l k (Some e) s w v read =
    let c = read_is_canonical (others l) e v in
    let at = at_comma l (not_nil (others l) e v) in
    let text : l ≡ step_text (WithNumber k e) = cc (at, w, c.0) in
    let same : WithNumber k e ≡ s = cc in
    subst (Canonical l) same (text, c.1)

by_cue : (l : List ℕ) (k : CueWord) (x : Option ℕ) (f : Option CueNumbers) (s : Step) → field l ≡ cue_word k
    → number_of (field (others l)) ≡ x → fields_of (others (others l)) ≡ f → cued k x f ≡ Some s → Canonical l s
by_cue l k None f s w v e read = absurd (cc)
by_cue l k (Some n) None s w v e read = absurd (cc)
by_cue l k (Some n) (Some cue) s w v e read =
    let c = call_canonical (others l) n cue v e in
    let at = at_comma l c.2 in
    let text : l ≡ step_text (WithCue k n cue) = cc (at, w, c.0) in
    let same : WithCue k n cue ≡ s = cc in
    subst (Canonical l) same (text, c.1)

by_word : (l : List ℕ) (w : Option Word) (s : Step) → word_of (field l) ≡ w
    → option_and_then (λ word. step_with word (others l)) w ≡ Some s → Canonical l s
by_word l None s e read = absurd (cc)
by_word l (Some (of_number k)) s e read =
    by_number l k (number_of (others l)) s (is_word (field l) (of_number k) e) refl read
by_word l (Some (of_cue k)) s e read =
    by_cue l k (number_of (field (others l))) (fields_of (others (others l))) s (is_word (field l) (of_cue k) e) refl refl
    read

pub step_read_is_canonical : StepReadIsCanonical
step_read_is_canonical l s read = by_word l (word_of (field l)) s refl read

pub empty_line_is_no_step : EmptyLineIsNoStep
unfolding up_to word_of
empty_line_is_no_step = refl
