-- `quick_words::WordTable::quick_word` meets its contract.
use Rattle.std.proofs.Common.{rules, sym, ◌∙◌}
use Rattle.quick_words.proofs.Laws.{short_look, word_is, word_not}
use Rattle.quick_words.proofs.WordTable.quick_word.Goals as goal

pub returns-in_err-bytes : goal.returns-in_err-bytes
returns-in_err-bytes c =
    c.from_residual.ensures
    ∙ short_look c.args.text.now c.args.at
    (sym c.in_err-bytes.was ∙ c.eight_bytes.ensures.number)

pub returns-then-bytes-row : goal.returns-then-bytes-row
returns-then-bytes-row c =
    word_not c.args.self.now.rows (search rules) c.args.text.now c.args.at _
    (sym c.in_ok-bytes.was ∙ c.eight_bytes.ensures.number) c.eight_bytes.ensures.bytes _ c.if-bytes-row.true

pub returns : goal.returns
returns c =
    word_is c.args.self.now.rows (search rules) c.args.text.now c.args.at _
    (sym c.in_ok-bytes.was ∙ c.eight_bytes.ensures.number) c.eight_bytes.ensures.bytes _ c.if-bytes-row.false
