use Rattle.std.proofs.Common.{ℕ, rules}
use Rattle.std.proofs.lemmas.List.FromFn.{fill_by_all}
use Rattle.boosting.specs.Store.{closed_transaction}
use Rattle.store.proofs.all_closed.Goals as goal

pub returns : goal.returns
returns c =
    let items = c.from_fn.ensures.items in
    fill_by_all (λ (k : ℕ). closed_transaction) _ 8 closed_transaction items.long
    (λ k h. let made = (items.at k closed_transaction h).2 in search rules)
