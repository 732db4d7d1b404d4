-- `scanning::quick::quick_step` meets its contract: the word stands before the rest of the line.
use Rattle.std.proofs.Common.{ap, arith, sym, ℕ, ◌+◌, ◌∙◌}
use Rattle.quick_words.proofs.Laws.{line_few, word_stands}
use Rattle.quick_words.specs.Row.{word_line}
use Rattle.scanning.proofs.Completing.{rest_scans}
use Rattle.scanning.proofs.quick.quick_step.Goals as goal

pub overflow_add-at : goal.overflow_add-at
overflow_add-at c =
    let word = word_stands c.args.text.now c.args.at _ (sym c.quick_word.ensures ∙ c.in_ok-found.was) in
    grind (arith, word.1, line_few c.in_ok-found.found.word)

pub quick_rest-requires : goal.quick_rest-requires
quick_rest-requires c =
    let word = word_stands c.args.text.now c.args.at _ (sym c.quick_word.ensures ∙ c.in_ok-found.was) in
    grind (arith, word.1, line_few c.in_ok-found.found.word)

pub returns : goal.returns
returns c =
    let a = c.args in
    let word = word_stands a.text.now a.at _ (sym c.quick_word.ensures ∙ c.in_ok-found.was) in
    rest_scans (word_line c.in_ok-found.found.word) a.text.now a.at _ c.quick_rest.result
    (ap (λ (n : ℕ). a.at + n) word.1) word.0 c.quick_rest.ensures
