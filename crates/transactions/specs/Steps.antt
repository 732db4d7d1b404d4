-- A transaction after an accepted call, and after a rollback step. Assumes nothing.
use Rattle.std.specs.Prelude.{Option}
use Rattle.boosting.specs.Undo.{Entry, noted}
use Rattle.boosting.specs.Locks.{Lock, hold}
use Rattle.boosting.specs.Store.{Transaction}
use Rattle.boosting.specs.Step.{unwound}
use Rattle.undo_logs.specs.Log.{older}

-- with one more lock, and with the entry noted, if there is one
abbrev pub accepted : Lock → Option Entry → Transaction → Transaction
accepted l n t = record { standing = t.standing; locks = hold l t.locks; log = noted n t.log }

-- without its newest entry: with none left it is closed
abbrev pub unwound_once : Transaction → Transaction
unwound_once t = unwound (older t.log) t.locks
