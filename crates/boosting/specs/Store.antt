-- The store, the users' desk: one script, one queue and eight transactions, the users' edits. Assumes nothing.
use Rattle.std.specs.Prelude.{
  ℕ,
  zero,
  suc,
  Bool,
  if◌then◌else◌,
  ◌&&◌,
  List,
  [],
  ◌∷◌,
  nat_eq,
  nat_le,
  slice_index_or,
  set,
  replicate,
  Option,
  None,
  Some,
}
use Rattle.boosting.specs.Object.{State}
use Rattle.boosting.specs.Undo.{Entry}
use Rattle.boosting.specs.Locks.{Lock, Locks, no_locks, conflicts}
-- closed, open, or aborting: the users' unwinding edit, which still holds its locks
pub use Rattle.vocabulary.specs.declared.Standing.{Standing}
pub use Rattle.vocabulary.specs.declared.Standing.TheVariants.{Closed as closed, Open as «open», Aborting as aborting}

pub record Transaction : Type 0 where
  pub standing : Standing
  pub locks : Locks
  pub log : List Entry

unfoldable pub closed_transaction : Transaction
closed_transaction = record { standing = closed; locks = no_locks; log = [] }

unfoldable pub open_transaction : Transaction
open_transaction = record { standing = «open»; locks = no_locks; log = [] }

pub record Store : Type 0 where
  pub state : State
  pub transactions : List Transaction

-- at the start the queue is empty and every transaction is closed
unfoldable pub started : List ℕ → State
started script = record { script = script; queue = [] }

unfoldable pub opened : List ℕ → Store
opened script = record { state = started script; transactions = replicate 8 closed_transaction }

-- transactions are numbered 1 to 8
abbrev pub valid : ℕ → Bool
valid e = nat_le 1 e && nat_le e 8

unfoldable pub transaction : Store → ℕ → Transaction
transaction d zero = closed_transaction
transaction d (suc i) = slice_index_or d.transactions i closed_transaction

abbrev pub with_transaction : List Transaction → ℕ → Transaction → List Transaction
with_transaction ts zero t = ts
with_transaction ts (suc i) t = set ts i t

-- the store with this state, and this as the transaction number e
unfoldable pub put : Store → State → ℕ → Transaction → Store
put d s e t = record { state = s; transactions = with_transaction d.transactions e t }

-- the lowest-numbered transaction other than e, from number i on, that holds a lock in conflict with this one
unfoldable pub blocker : ℕ → Lock → ℕ → List Transaction → Option ℕ
blocker e k i [] = None
blocker e k i (t ∷ ts) =
    if nat_eq i e then blocker e k (suc i) ts else if conflicts k t.locks then Some i else blocker e k (suc i) ts
