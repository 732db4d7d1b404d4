-- Room: a transaction has at most 24 cue locks and 16 undo entries, the script 256 slots, the queue 64. Users call
-- a slot a place. Closed transactions have an empty log, so only unclosed ones count. Assumes nothing.
use Rattle.std.specs.Prelude.{ℕ, suc, ◌+◌, Bool, false, not, ◌&&◌, List, [], ◌∷◌, nat_le, length, Option, None, Some}
use Rattle.tables.specs.Table.{member_of, put_once_of}
use Rattle.boosting.specs.Undo.{Entry, added, removed, pushed, taken}
use Rattle.boosting.specs.Locks.{Lock, cue_lock, push_mode, look_mode, take_mode, Locks}
use Rattle.boosting.specs.Store.{Transaction, Store}

-- the keys that have a script slot through a log, over those that have one already, each once
unfoldable pub reserved_by : List Entry → List ℕ → List ℕ
reserved_by [] x = x
reserved_by (added k ∷ log) x = put_once_of k (reserved_by log x)
reserved_by (removed k ∷ log) x = put_once_of k (reserved_by log x)
reserved_by (pushed k ∷ log) x = reserved_by log x
reserved_by (taken k ∷ log) x = reserved_by log x

unfoldable pub reserved_in : List Transaction → List ℕ → List ℕ
reserved_in [] x = x
reserved_in (t ∷ ts) x = reserved_by t.log (reserved_in ts x)

-- a cue has a slot while it is in the script or stands in an add or remove entry of an unclosed transaction
abbrev pub reserved : Store → List ℕ
reserved d = reserved_in d.transactions d.state.script

-- the take entries of a log
unfoldable pub takes_by : List Entry → ℕ
takes_by [] = 0
takes_by (added k ∷ log) = takes_by log
takes_by (removed k ∷ log) = takes_by log
takes_by (pushed k ∷ log) = takes_by log
takes_by (taken k ∷ log) = suc (takes_by log)

unfoldable pub takes_in : List Transaction → ℕ
takes_in [] = 0
takes_in (t ∷ ts) = takes_by t.log + takes_in ts

-- queue slots: the cues now in it, and the take entries of unclosed transactions
abbrev pub queue_slots : Store → ℕ
queue_slots d = length d.state.queue + takes_in d.transactions

-- a 25th cue lock is needed
abbrev pub locks_full : Lock → Locks → Bool
locks_full (cue_lock k) l = not (member_of k l.cues) && nat_le 24 (length l.cues)
locks_full push_mode l = false
locks_full look_mode l = false
locks_full take_mode l = false

-- a 17th log entry is needed
abbrev pub log_full : Option Entry → List Entry → Bool
log_full None log = false
log_full (Some n) log = nat_le 16 (length log)

-- a 257th script slot is needed
abbrev pub script_full : Option Entry → List ℕ → Bool
script_full None slots = false
script_full (Some (added k)) slots = not (member_of k slots) && nat_le 256 (length slots)
script_full (Some (removed k)) slots = false
script_full (Some (pushed k)) slots = false
script_full (Some (taken k)) slots = false

-- a 65th queue slot is needed
abbrev pub queue_full : Option Entry → ℕ → Bool
queue_full None slots = false
queue_full (Some (added k)) slots = false
queue_full (Some (removed k)) slots = false
queue_full (Some (pushed k)) slots = nat_le 64 slots
queue_full (Some (taken k)) slots = false
