-- `refusal_length` meets its contract: 8 has a third field, every other row none.
use Rattle.std.proofs.Common.{arith, ◌≡◌, length, refl}
use Rattle.lines.specs.Ascii.{bytes}
use Rattle.digits.specs.Digits.{digits_at}
use Rattle.records.specs.Record.{field_text}
use Rattle.records.proofs.Laws.{field_length, record_length}
use Rattle.answers.specs.Answer.{refusal_text}
use Rattle.answers.proofs.refusal_length.Goals as goal

pub returns-in-Blocked : goal.returns-in-Blocked
unfolding refusal_text digits_at
returns-in-Blocked c =
    let e = c.in-Blocked.e in
    let eight : length (field_text 8 44) ≡ 2 = refl in
    let counted = c.digit_count.ensures.counted in
    rw c.in-Blocked.is (omega (arith, record_length (bytes "refused") 8 e, field_length e 10, eight, counted))
