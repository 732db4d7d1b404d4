-- An answer's line stands for that answer alone, and its only LF ends it. Assumes nothing.
use mathlib.Core.Path.{sym, ap, ◌∙◌}
use Rattle.answers.specs.Theorems.{AnswersDiffer, AnswerLineOneLf}
use Rattle.answers.proofs.Texts.{answer_back, answer_back_lem, answer_line}

pub answers_differ : AnswersDiffer
answers_differ a b fa fb e = sym (answer_back_lem a fa) ∙ (ap answer_back e ∙ answer_back_lem b fb)

pub answer_line_one_lf : AnswerLineOneLf
answer_line_one_lf = answer_line
