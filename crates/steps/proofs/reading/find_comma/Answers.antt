use Rattle.std.proofs.Common.{rules, tests}
use Rattle.std.proofs.lemmas.Iterator.{YieldsList-from_slice}
use Rattle.std.proofs.lemmas.Iterator.Search.{position_from_yields_List}
use Rattle.steps.proofs.Steps.{is_comma, comma_found}
use Rattle.steps.proofs.reading.find_comma.Goals as goal

pub returns : goal.returns
returns c =
    comma_found _ _
    (position_from_yields_List is_comma _ _ c.position.result c.position.ensures.ran
    (YieldsList-from_slice _ c.iter.ensures.rest) (λ x b q k. search (rules, tests)))
