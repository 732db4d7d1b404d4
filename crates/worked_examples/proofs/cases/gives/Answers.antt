-- `worked_examples::cases::gives` meets its contract: only the expected output is right.
use Rattle.std.proofs.Common.{sym, ◌∙◌}
use lib.Pointwise.{bytes_decides}
use Rattle.worked_examples.proofs.Printed.{printed}
use Rattle.worked_examples.proofs.cases.gives.Goals as goal

pub returns : goal.returns
returns c =
    λ right.
    let w = c.run_session-written in
    sym (printed _ _ _ w.result _ w.ensures c.in-Ok.is) ∙ (bytes_decides _ _).0 (sym c.eq.ensures ∙ right)
