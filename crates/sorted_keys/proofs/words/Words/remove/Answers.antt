-- `Words::remove` meets its contract.
use Rattle.std.proofs.Common.{ℕ, List, ap, ◌∙◌, length, remove, length-take-le, arith}
use Rattle.sorted_keys.proofs.Shifts.{take-moved_down}
use Rattle.sorted_keys.proofs.words.Words.remove.Goals as goal

pub returns : goal.returns
returns g c =
    let s = c.self.inside in
    let shown = length-take-le s.count s.words (omega arith) in
    let same = ap length c.self.view_is in
    rw c.copy_within.ensures.after (take-moved_down s.count c.args.at s.words (omega arith) (omega arith))
    ∙ ap (λ (xs : List ℕ). remove xs c.args.at) c.self.view_is
