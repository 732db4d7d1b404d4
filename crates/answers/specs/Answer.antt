-- The line that is printed for an answer, with its LF. Assumes nothing.
use Rattle.std.specs.Prelude.{ℕ, List, ◌++◌}
use Rattle.refusals.specs.Refusal.{refusal_number}
use Rattle.refusals.specs.declared.Refusal.{Refusal}
use Rattle.refusals.specs.declared.Refusal.TheVariants.{Blocked}
use Rattle.lines.specs.Ascii.{bytes}
use Rattle.records.specs.Record.{field_text, record_text}
use Rattle.cue_texts.specs.CueText.{cue_text}
use Rattle.answers.specs.declared.Answer.{Answer}
use Rattle.answers.specs.declared.Answer.TheVariants.{Ok, Yes, No, Empty, Cue, Left, Refused}

-- `refused,n` and LF (10)
abbrev pub row_text : ℕ → List ℕ
row_text n = bytes "refused," ++ field_text n 10

-- a refusal prints its row; 8 the transaction in the way too, as third field
unfoldable pub refusal_text : Refusal → List ℕ
refusal_text (Blocked e) = record_text (bytes "refused") (refusal_number (Blocked e)) e
refusal_text refusal = row_text (refusal_number refusal)

abbrev pub answer_text : Answer → List ℕ
answer_text Ok = bytes "ok\n"
answer_text Yes = bytes "yes\n"
answer_text No = bytes "no\n"
answer_text Empty = bytes "empty\n"
answer_text (Cue c) = bytes "cue," ++ cue_text c
answer_text (Left n) = bytes "left," ++ field_text n 10
answer_text (Refused r) = refusal_text r
