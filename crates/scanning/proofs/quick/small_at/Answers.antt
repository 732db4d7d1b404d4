-- `scanning::quick::small_at` meets its contract.
use Rattle.std.proofs.Common.{arith, ◌+◌}
use Rattle.scanning.proofs.Parts.{in_text}
use Rattle.scanning.proofs.quick.small_at.Goals as goal

pub returns : goal.returns
returns c =
    let a = c.args in
    in_text a.text.now a.at (a.at + 2) 2 2 c.two_digits.result (omega arith) (omega arith)
    c.two_digits.ensures
