use Rattle.short_answers.proofs.ShortLines.{digit_line}
use Rattle.short_answers.proofs.append_number.Goals as goal

pub returns-then-n-lt10 : goal.returns-then-n-lt10
returns-then-n-lt10 g c =
    let r = c.requires in
    digit_line _ _ _ _ _ _ g.row.N c.told-word r.has_room r.short c.if-n-lt10.true c.put_bytes.ensures
    c.put_last_digit.ensures
