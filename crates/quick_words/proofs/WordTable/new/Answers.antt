-- `quick_words::WordTable::new` meets its contract: each slot has its row.
use Rattle.quick_words.proofs.Laws.{table_made}
use Rattle.quick_words.proofs.WordTable.new.Goals as goal

pub invariant_of-result : goal.invariant_of-result
invariant_of-result c = record {
  known = table_made _ _ _ _ _ _ _ _ _ _ c.known_word-add.ensures c.known_word-remove.ensures c.known_word-has.ensures
      c.known_word-push.ensures c.known_word-min.ensures c.known_word-take.ensures c.known_word-begin.ensures
      c.known_word-commit.ensures c.known_word-undo.ensures c.known_word-back.ensures;
}
