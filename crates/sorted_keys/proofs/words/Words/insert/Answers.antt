-- `Words::insert` meets its contract.
use Rattle.std.proofs.Common.{ℕ, List, ap, ◌∙◌, length, insert, length-take-le, arith}
use Rattle.sorted_keys.proofs.Shifts.{take-moved_up}
use Rattle.sorted_keys.proofs.words.Words.insert.Goals as goal

pub returns : goal.returns
returns g c =
    let s = c.self.inside in
    let shown = length-take-le s.count s.words (omega arith) in
    let same = ap length c.self.view_is in
    rw c.copy_within.ensures.after (take-moved_up s.count c.args.at c.args.word s.words (omega arith) (omega arith))
    ∙ ap (λ (xs : List ℕ). insert xs c.args.at c.args.word) c.self.view_is
