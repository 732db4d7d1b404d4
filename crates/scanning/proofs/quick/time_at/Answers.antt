-- `scanning::quick::time_at` meets its contract.
use Rattle.std.proofs.Common.{arith, ◌+◌}
use Rattle.scanning.proofs.Parts.{in_text}
use Rattle.scanning.proofs.quick.time_at.Goals as goal

pub returns : goal.returns
returns c =
    let a = c.args in
    in_text a.text.now a.at (a.at + 8) 7 8 c.seven_digits.result (omega arith) (omega arith)
    c.seven_digits.ensures
