-- What the code's answers mean: a refusal, or what goes on where no row is met; and the rows of room. Assumes nothing.
use Rattle.std.specs.Prelude.{ℕ, List, [], ◌∷◌, Option, None, Some, Result, Ok, Err}
use Rattle.refusals.specs.declared.Refusal.{Refusal}
use Rattle.refusals.specs.declared.Refusal.TheVariants.{UndoLogFull, ScriptFull, QueueFull}
use Rattle.boosting.specs.Object.{State}
use Rattle.boosting.specs.Undo.{Entry}
use Rattle.boosting.specs.Store.{Transaction, Store, transaction}
use Rattle.boosting.specs.Room.{reserved, queue_slots, log_full, script_full, queue_full}
use Rattle.boosting.specs.Rows.{when}

-- the model's store of an object and the transactions beside it
abbrev pub store_of : State → List Transaction → Store
store_of s ts = record { state = s; transactions = ts }

-- what goes on where no row is met; else the row
abbrev pub admitted : {A : Type 0} → Option Refusal → A → Result A Refusal
admitted None a = Ok a
admitted (Some r) a = Err r

-- rows 10 to 12, by the entry that the call notes
abbrev pub room_rows : Store → ℕ → Option Entry → List (Option Refusal)
room_rows d e n =
    when (log_full n (transaction d e).log) UndoLogFull
    ∷ when (script_full n (reserved d)) ScriptFull
    ∷ when (queue_full n (queue_slots d)) QueueFull
    ∷ []
