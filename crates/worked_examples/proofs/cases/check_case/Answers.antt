-- `worked_examples::cases::check_case` meets its contract: what it cuts out are the parts of the case.
use Rattle.std.proofs.Common.{◌≡◌, true, sym, ap, ◌∙◌}
use Rattle.std.proofs.lemmas.List.{take_rest}
use Rattle.session.specs.Output.{output_of}
use Rattle.worked_examples.proofs.Case.{parts}
use Rattle.worked_examples.proofs.cases.check_case.Goals as goal

pub returns : goal.returns
returns g c =
    λ right.
    let met : c.gives-right.result ≡ true = cc in
    let p = parts c.args.case.now _ _ _ _ _ c.find_byte-name.ensures.0 c.find_byte-name_end.ensures.0
    c.line_after-input.ensures.behind c.find_byte-input_end.ensures.0 c.line_after-output.ensures.behind in
    let wanted = take_rest c.args.case.now c.line_after-output.result ∙ p.1 in
    ap output_of (sym p.0) ∙ (c.gives-right.ensures met ∙ wanted)
