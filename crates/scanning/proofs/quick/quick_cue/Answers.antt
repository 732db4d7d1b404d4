-- `scanning::quick::quick_cue` meets its contract: from the LF back, each field stands before the next.
use Rattle.std.proofs.Common.{arith, ◌++◌, ◌+◌}
use Rattle.digits.specs.Digits.{digits_of}
use Rattle.quick_numbers.proofs.Laws.{nine_digits}
use Rattle.quick_words.specs.Row.{word_line}
use Rattle.records.specs.Record.{field_text}
use Rattle.scanning.proofs.Completing.{call_line, ended, field_earlier, number_earlier}
use Rattle.step_words.specs.declared.Word.TheVariants.{WithCue as of_cue}
use Rattle.steps.specs.StepText.{NineDigitCall}
use Rattle.scanning.proofs.quick.quick_cue.Goals as goal

pub returns : goal.returns
returns c =
    let a = c.args in
    let s = a.text.now in
    let t = c.in_ok-time.time in
    let m = c.in_ok-module.«module» in
    let p = c.in_ok-pin.pin in
    let ft = c.in_ok-time.ensures in
    let fm = c.in_ok-module.ensures in
    let fp = c.in_ok-pin.ensures in
    let time = a.at in
    let «module» = time + t.digits + 1 in
    let pin = «module» + m.digits + 1 in
    let end = pin + p.digits in
    let word = word_line (of_cue a.word) ++ field_text a.e 44 in
    let with_time = word ++ field_text t.value 44 in
    let with_module = with_time ++ field_text m.value 44 in
    let line = with_module ++ digits_of p.value in
    let nine : NineDigitCall a.e (record { time = t.value; «module» = m.value; pin = p.value }) = record {
      transaction = c.requires.nine;
      time = nine_digits s time 7 t ft;
      «module» = nine_digits s «module» 2 m fm;
      pin = nine_digits s pin 2 p fp;
    } in
    field_earlier word s time 7 t ft 44 _ (omega (arith, ft.few)) c.if-text-time_end-ne-COMMA.false
    (field_earlier with_time s «module» 2 m fm 44 _ (omega (arith, ft.few, fm.few)) c.if-text-module_end-ne-COMMA.false
    (number_earlier with_module s pin 2 p fp _
    (ended line s _ end (call_line a.word a.e _ nine) (omega (arith, ft.few, fm.few, fp.few)) (omega arith))))
