-- `scanning::quick::quick_rest` meets its contract.
use Rattle.std.proofs.Common.{arith, length, subst, sym, ◌++◌, ◌+◌, ◌<◌}
use Rattle.digits.specs.Digits.{digits_of}
use Rattle.quick_numbers.proofs.Laws.{nine_digits}
use Rattle.quick_words.specs.Row.{word_line}
use Rattle.scanning.proofs.Completing.{ended, number_earlier, number_line, rest_field}
use Rattle.scanning.specs.Quick.{Completes, RestFits}
use Rattle.scanning.specs.declared.Scanned.{Scanned}
use Rattle.std.specs.Prelude.{Some}
use Rattle.step_words.specs.declared.Word.{Word}
use Rattle.step_words.specs.declared.Word.TheVariants.{WithNumber as of_number, WithCue as of_cue}
use Rattle.steps.specs.declared.reading.Step.TheVariants.{WithNumber}
use Rattle.scanning.proofs.quick.quick_rest.Goals as goal

pub quick_cue-requires-clause-nine : goal.quick_cue-requires-clause-nine
quick_cue-requires-clause-nine c = nine_digits c.args.text.now c.args.at 2 _ c.in_ok-e.ensures

pub returns-in-WithCue : goal.returns-in-WithCue
returns-in-WithCue c =
    let a = c.args in
    subst (λ (w : Word). RestFits (word_line w) a.text.now a.at c.quick_cue.result) (sym c.in-WithCue.is)
    (rest_field (word_line (of_cue c.in-WithCue.word)) a.text.now a.at 2 44 c.in_ok-e.e c.quick_cue.result
    c.in_ok-e.ensures (omega (arith, c.in_ok-e.ensures.few)) c.if-text-end-eq-COMMA.true c.quick_cue.ensures)

pub returns-in-WithNumber : goal.returns-in-WithNumber
returns-in-WithNumber c =
    let a = c.args in
    let s = a.text.now in
    let w = c.in-WithNumber.word in
    let e = c.in_ok-e.e in
    let fits = c.in_ok-e.ensures in
    let h : a.at + e.digits < length s = omega (arith, fits.few) in
    let r : Scanned = record { step = Some (WithNumber w e.value); end = a.at + e.digits } in
    subst (λ (v : Word). Completes (word_line v) s a.at r) (sym c.in-WithNumber.is)
    (number_earlier (word_line (of_number w)) s a.at 2 e fits r
    (ended (word_line (of_number w) ++ digits_of e.value) s _ (a.at + e.digits)
    (number_line w e.value (nine_digits s a.at 2 e fits)) h c.if-text-end-eq-LF.true))
