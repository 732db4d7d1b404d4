-- What is left of the steps leads to the same store.
use Rattle.std.proofs.Common.{◌≡◌, ◌-◌}
use Rattle.boosting.specs.Recovery.{roll_backs}
use Rattle.store.proofs.Store.roll_backs.Given as goal

abbrev pub invariant-loop-step : goal.invariant-loop-step
invariant-loop-step l = roll_backs (l.steps - l._step) l.self l.e ≡ roll_backs l.steps l.initial.self l.e
