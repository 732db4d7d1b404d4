-- `step_words::read_word` meets its contract: six letters are compared one by one.
use Rattle.std.proofs.Common.{arith, ap, rules, sym}
use Rattle.std.specs.Prelude.{codes}
use Rattle.step_words.proofs.WordText.{told}
use Rattle.step_words.specs.Word.{word_of}
use Rattle.step_words.proofs.read_word.Goals as goal

pub returns-in-remove : goal.returns-in-remove
unfolding word_of
returns-in-remove c = sym (ap word_of (told c.args.bytes.now 0 (codes "remove") (omega arith) (search rules)))

pub returns-in-commit : goal.returns-in-commit
unfolding word_of
returns-in-commit c = sym (ap word_of (told c.args.bytes.now 0 (codes "commit") (omega arith) (search rules)))
