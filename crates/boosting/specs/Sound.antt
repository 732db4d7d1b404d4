-- What opening and stepping keep of a store: order, ranges and room. Assumes nothing.
use Rattle.std.specs.Prelude.{ℕ, Option, Some, None, ◌≤◌, ◌≡◌, false, List, [], ◌∷◌, length}
use Rattle.cues.specs.Cue.{CueKey}
use Rattle.tables.specs.Table.{Ordered, member_of}
use Rattle.scripts.specs.Theorems.{AllCues}
use Rattle.boosting.specs.Object.{Call, add, remove, has, push, min, take}
use Rattle.boosting.specs.Undo.{Entry, added, removed, pushed, taken}
use Rattle.boosting.specs.Store.{closed, Transaction, closed_transaction, Store}
use Rattle.boosting.specs.Room.{reserved, queue_slots}
use Rattle.boosting.specs.Rows.{Action, begin, commit, abort, roll_back, call, Request}

-- no key stands twice
abbrev pub Once : List ℕ → Type 0
Once [] = Unit {0}
Once (k ∷ ks) = (member_of k ks ≡ false) × Once ks

-- the key that an entry names
abbrev pub key_in : Entry → ℕ
key_in (added k) = k
key_in (removed k) = k
key_in (pushed k) = k
key_in (taken k) = k

-- each entry names a cue in range
abbrev pub AllEntries : List Entry → Type 0
AllEntries [] = Unit {0}
AllEntries (n ∷ log) = CueKey (key_in n) × AllEntries log

pub record SoundTransaction (t : Transaction) : Type 0 where
  pub locks_at_most : length t.locks.cues ≤ 24
  pub locks_once : Once t.locks.cues
  pub locks_in_range : AllCues t.locks.cues
  pub log_at_most : length t.log ≤ 16
  pub log_in_range : AllEntries t.log
  pub closed_holds_nothing : t.standing ≡ closed → t ≡ closed_transaction

abbrev pub AllSound : List Transaction → Type 0
AllSound [] = Unit {0}
AllSound (t ∷ ts) = SoundTransaction t × AllSound ts

pub record Sound (d : Store) : Type 0 where
  pub script_rising : Ordered 1 d.state.script
  pub script_in_range : AllCues d.state.script
  pub queue_rising : Ordered 0 d.state.queue
  pub queue_in_range : AllCues d.state.queue
  pub eight : length d.transactions ≡ 8
  pub transactions_sound : AllSound d.transactions
  pub script_slots : length (reserved d) ≤ 256
  pub queue_slots : queue_slots d ≤ 64

-- a call on a cue has the key of a cue in range
abbrev pub CallKey : Call → Type 0
CallKey (add k) = CueKey k
CallKey (remove k) = CueKey k
CallKey (has k) = CueKey k
CallKey (push k) = CueKey k
CallKey min = Unit {0}
CallKey take = Unit {0}

-- a call that is asked for has the key of a cue
abbrev pub ActionKey : Action → Type 0
ActionKey begin = Unit {0}
ActionKey commit = Unit {0}
ActionKey abort = Unit {0}
ActionKey roll_back = Unit {0}
ActionKey (call None) = Unit {0}
ActionKey (call (Some c)) = CallKey c

-- what stepping asks of a request
abbrev pub RequestKey : Option Request → Type 0
RequestKey None = Unit {0}
RequestKey (Some q) = ActionKey q.action
