use Rattle.std.specs.Prelude.{Some}
use Rattle.store.proofs.Rows.{asked_key}
use Rattle.store.proofs.Store.execute.Goals as goal

pub try_request-requires : goal.try_request-requires
try_request-requires c = asked_key _ (Some c.in-Some.step) c.request_of.ensures
