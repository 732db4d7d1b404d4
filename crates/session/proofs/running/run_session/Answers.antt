-- A buffer that is not too short holds the output.
use Rattle.std.proofs.Common.{arith, refl}
use Rattle.buffers.proofs.Laws.{written}
use Rattle.session.proofs.Fitting.{output_fits}
use Rattle.session.proofs.running.run_session.Goals as goal

pub returns : goal.returns
returns c =
    let p = c.play.ensures.printed in
    written _ _ _ _ _ (grind (arith, output_fits)) p.place (p.stored refl)
