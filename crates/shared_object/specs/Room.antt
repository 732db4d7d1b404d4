-- What script and queue have room for. Assumes nothing.
use Rattle.std.specs.Prelude.{◌≤◌, length}
use Rattle.boosting.specs.Object.{State}

pub record HasRoom (s : State) : Type 0 where
  pub script : length s.script ≤ 256
  pub queue : length s.queue ≤ 64
