-- How long the output can be. Assumes nothing.
use mathlib.Core.Path.{◌≡◌, refl, ap}
use mathlib.Core.List.{List, [], ◌∷◌, ◌++◌}
use Prim.Native.Nat.{ℕ, ◌+◌, ◌*◌, ◌≤◌, ◌<◌}
use native.Mathlib.Omega.{arith}
use lib.Dec.{ltb}
use lib.ListN.{length, length-append, length-drop}
use borrow.Author.Tests.{ltb-false}
use Rattle.refusals.specs.Refusal.{refusal_number}
use Rattle.refusals.specs.declared.Refusal.{Refusal}
use Rattle.refusals.specs.declared.Refusal.TheVariants.{Malformed as MalformedLine, Blocked, CueOutOfRange, TextTooLong}
use Rattle.lines.specs.Ascii.{bytes}
use Rattle.lines.specs.Lines.{up_to, lines_of}
use Rattle.lines.proofs.Laws.{lines_append}
use Rattle.digits.specs.Digits.{digits_at, digits_of}
use Rattle.digits.proofs.Laws.{digits_at_most, digits_bounded}
use Rattle.records.specs.Record.{field_text}
use Rattle.records.proofs.Laws.{field_length, record_length}
use Rattle.cues.specs.Cue.{cue_of}
use Rattle.cue_texts.specs.CueText.{cue_text}
use Rattle.cue_texts.proofs.Laws.{text_length}
use Rattle.tables.proofs.Laws.{split}
use Rattle.std.specs.Prelude.{Option, None, Some, Result, Ok as Read, Err as Unread}
use Rattle.refusals.specs.declared.RefusedText.{RefusedText}
use Rattle.scripts.specs.Script.{script_of}
use Rattle.steps.specs.declared.reading.Step.{Step}
use Rattle.steps.specs.declared.reading.Step.TheVariants.{WithNumber, WithCue}
use Rattle.step_words.specs.declared.NumberWord.{NumberWord}
use Rattle.step_words.specs.declared.NumberWord.TheVariants.{Begin}
use Rattle.step_words.specs.declared.CueWord.{CueWord}
use Rattle.step_words.specs.declared.CueWord.TheVariants.{Add}
use Rattle.step_words.specs.Word.{number_word, cue_word}
use Rattle.answers.specs.declared.Answer.{Answer}
use Rattle.answers.specs.declared.Answer.TheVariants.{Cue as CueAnswer, Left, Refused}
use Rattle.steps.specs.Step.{step_of}
use Rattle.steps.specs.StepText.{step_text}
use Rattle.answers.specs.Answer.{refusal_text, answer_text}
use Rattle.steps.proofs.Theorems.{step_read_is_canonical}
use Rattle.boosting.specs.Object.{Reply, is_cue, reply, answer_of}
use Rattle.boosting.specs.Undo.{Entry}
use Rattle.boosting.specs.Store.{Store, opened, transaction}
use Rattle.boosting.specs.Rows.{
  Action,
  begin,
  commit,
  abort,
  roll_back,
  call,
  Request,
  request_of,
  refusal_of,
}
use Rattle.boosting.specs.Step.{accept, undo_newest, perform, decided, step_on, step_line}
use Rattle.boosting.specs.Recovery.{rising}
use Rattle.boosting.specs.Sound.{Sound}
use Rattle.boosting.proofs.Theorems.{opened_is_sound, run_keeps_sound, recovery_keeps_sound}
use Rattle.boosting.specs.Run.{run}
use Rattle.inputs.specs.Division.{steps_place, start_text, step_list}
use Rattle.inputs.proofs.Texts.{by_lines, lines_one}
use Rattle.closing_lists.proofs.Fitting.{closing_fits}
use Rattle.session.specs.Output.{
  answer_lines,
  recovered,
  run_text,
  start_refused,
  output_with,
  output_of,
}
use Rattle.session.specs.Theorems.{room, OutputFits}
use Rattle.session.proofs.Answers.{lines_answered, nothing_answered}

-- ---- one answer
refusal_at_most : (r : Refusal) → length (refusal_text r) ≤ 40
unfolding refusal_text digits_at
refusal_at_most (Blocked e) =
    omega (arith, record_length (bytes "refused") 8 e, field_length e 10, digits_bounded 19 e)
refusal_at_most _ = omega arith

left_at_most : (n : ℕ) → length (answer_text (Left n)) ≤ 40
left_at_most n =
    omega (arith, length-append (bytes "left,") (field_text n 10), field_length n 10, digits_bounded 19 n)

cue_at_most : (k : ℕ) → length (cue_text (cue_of k)) ≤ 19
cue_at_most k =
    let c = cue_of k in
    let t = digits_at_most 9 19 c.time (omega arith) in
    let m = digits_at_most 2 19 c.«module» (omega arith) in
    let p = digits_at_most 2 19 c.pin (omega arith) in
    omega (arith, text_length c, field_length c.time 44, field_length c.«module» 44, field_length c.pin 10)

-- the line of any answer
pub line_at_most : (a : Answer) → length (answer_text a) ≤ 72
line_at_most (CueAnswer c) =
    let t = digits_bounded 19 c.time in
    let m = digits_bounded 19 c.«module» in
    let p = digits_bounded 19 c.pin in
    omega (
      arith,
      length-append (bytes "cue,") (cue_text c),
      text_length c,
      field_length c.time 44,
      field_length c.«module» 44,
      field_length c.pin 10,
      t,
      m,
      p,
    )
line_at_most (Left n) = omega (arith, left_at_most n)
line_at_most (Refused r) = omega (arith, refusal_at_most r)
line_at_most _ = omega arith

reply_at_most : (r : Reply) → length (answer_text (answer_of r)) ≤ 40
reply_at_most (is_cue k) = omega (arith, length-append (bytes "cue,") (cue_text (cue_of k)), cue_at_most k)
reply_at_most _ = omega arith

unwound_at_most : (d : Store) (e : ℕ) (log : List Entry) → length (answer_text (undo_newest d e log).answer) ≤ 40
unwound_at_most d e [] = left_at_most 0
unwound_at_most d e (n ∷ log) = left_at_most (length log)

performed_at_most : (d : Store) (e : ℕ) (a : Action) → length (answer_text (perform d e a).answer) ≤ 40
unfolding perform accept
performed_at_most d e begin = omega arith
performed_at_most d e commit = omega arith
performed_at_most d e abort = omega arith
performed_at_most d e roll_back = unwound_at_most d e (transaction d e).log
performed_at_most d e (call None) = refusal_at_most CueOutOfRange
performed_at_most d e (call (Some c)) = reply_at_most (reply c d.state)

decided_at_most : (o : Option Refusal) (d : Store) (e : ℕ) (a : Action)
    → length (answer_text (decided o d e a).answer) ≤ 40
decided_at_most (Some r) d e a = refusal_at_most r
decided_at_most None d e a = performed_at_most d e a

stepped_at_most : (d : Store) (q : Option Request) → length (answer_text (step_on d q).answer) ≤ 40
unfolding step_on
stepped_at_most d None = refusal_at_most MalformedLine
stepped_at_most d (Some q) = decided_at_most (refusal_of d (Some q)) d q.transaction q.action

number_word_long : (w : NumberWord) → 3 ≤ length (number_word w)
number_word_long Begin = omega arith
number_word_long _ = omega arith

cue_word_long : (w : CueWord) → 3 ≤ length (cue_word w)
cue_word_long Add = omega arith
cue_word_long _ = omega arith

-- a line that is a step has four bytes and more
step_long : (s : Step) → 4 ≤ length (step_text s)
step_long (WithNumber w e) = simp length-append (omega (arith, number_word_long w))
step_long (WithCue w e c) = simp length-append (omega (arith, cue_word_long w))

malformed_answer : (d : Store) → length (answer_text (step_on d (request_of None)).answer) ≡ 10
unfolding step_on refusal_text digits_at
malformed_answer d = refl

-- ten bytes for each byte of a line, or for the LF of an empty one
answer_at_most : (d : Store) (l : List ℕ) (n : ℕ) → length l ≤ n → 1 ≤ n
    → length (answer_text (step_line d l).answer) ≤ 10 * n
unfolding step_line
answer_at_most d l n h p = by_case (step_of l) refl
  where
    by_case : (s : Option Step) → step_of l ≡ s → length (answer_text (step_on d (request_of s)).answer) ≤ 10 * n
    by_case None e = omega (arith, malformed_answer d)
    by_case (Some s) e =
        let t = ap length (step_read_is_canonical l s e).0 in
        omega (arith, t, step_long s, stepped_at_most d (request_of (Some s)))

-- ---- the answers of a text
abbrev AnswersFit : List ℕ → Type 0
AnswersFit s = (d : Store) → length (answer_lines d (lines_of s)) ≤ 10 * length s

answers_none : AnswersFit []
unfolding lines_of
answers_none d = rw (nothing_answered d) (omega arith)

answers_one : (s : List ℕ) → 0 < length s → up_to 10 s ≡ length s → AnswersFit s
answers_one s h u d =
    rw (lines_one s h u, lines_answered d s [], nothing_answered)
    (simp length-append (omega (arith, answer_at_most d s (length s) (omega arith) (omega arith))))

answers_more : (l r : List ℕ) → up_to 10 l ≡ length l → AnswersFit r → AnswersFit (l ++ 10 ∷ r)
answers_more l r u hyp d =
    let a = answer_at_most d l (length l + 1) (omega arith) (omega arith) in
    rw (lines_append l r u, lines_answered d l (lines_of r))
    (simp length-append (omega (arith, a, hyp (step_line d l).store)))

answers_fit : (s : List ℕ) → AnswersFit s
answers_fit = by_lines AnswersFit answers_none answers_one answers_more

-- ---- the whole output
run_fits : (d : Store) (s : List ℕ) → Sound d → length s ≤ 65536 → length (run_text d (lines_of s)) ≤ room
unfolding run_text
run_fits d s v h =
    let w = recovery_keeps_sound (run d (lines_of s)).store rising (run_keeps_sound d (lines_of s) v) in
    simp length-append (omega (arith, answers_fit s d, closing_fits (recovered d (lines_of s)) w))

pub refused_length : (r : Refusal) (line : ℕ)
    → length (start_refused r line) ≡ 8 + length (digits_of (refusal_number r)) + length (digits_of line)
refused_length r line =
    omega (
      arith,
      record_length (bytes "start") (refusal_number r) line,
      field_length (refusal_number r) 44,
      field_length line 10,
    )

refused_fits : (r : Refusal) (line : ℕ) → length (start_refused r line) ≤ room
refused_fits r line =
    omega (arith, refused_length r line, digits_bounded 19 (refusal_number r), digits_bounded 19 line)

step_list_short : (s : List ℕ) → length s ≤ 65536 → length (step_list s) ≤ 65536
unfolding step_list
step_list_short s h = omega (arith, length-drop (steps_place (lines_of s) + 6) s)

pub output_fits : OutputFits
unfolding output_of
output_fits s =
    split (ltb 65536 (length s))
    (λ t. rw t (refused_fits TextTooLong 0))
    (λ t. rw t (by_read (script_of (start_text s)) refl (ltb-false _ _ t)))
  where
    by_read : (r : Result (List ℕ) RefusedText) → script_of (start_text s) ≡ r → length s ≤ 65536
        → length (output_with r (lines_of (step_list s))) ≤ room
    by_read (Unread why) e h = refused_fits why.refusal why.line
    by_read (Read script) e h =
        let sound : Sound (opened script) = rw e at (opened_is_sound (start_text s)) in
        run_fits (opened script) (step_list s) sound (step_list_short s h)
