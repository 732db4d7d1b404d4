-- One step on a raw line: refused with nothing changed, or accepted and done. Assumes nothing.
use Rattle.std.specs.Prelude.{ℕ, List, [], ◌∷◌, length, Option, None, Some}
use Rattle.refusals.specs.declared.Refusal.{Refusal}
use Rattle.refusals.specs.declared.Refusal.TheVariants.{CueOutOfRange}
use Rattle.refusals.specs.declared.Refusal.TheVariants.{Malformed as MalformedLine}
use Rattle.steps.specs.Step.{step_of}
use Rattle.answers.specs.declared.Answer.{Answer}
use Rattle.answers.specs.declared.Answer.TheVariants.{Ok, Left, Refused}
use Rattle.boosting.specs.Object.{Call, effect, reply, answer_of}
use Rattle.boosting.specs.Undo.{Entry, entry_of, inverse, noted}
use Rattle.boosting.specs.Locks.{Locks, lock_of, hold}
use Rattle.boosting.specs.Store.{
  «open»,
  aborting,
  Transaction,
  closed_transaction,
  open_transaction,
  Store,
  transaction,
  put,
}
use Rattle.boosting.specs.Rows.{
  Action,
  begin,
  commit,
  abort,
  roll_back,
  call,
  Request,
  request_of,
  refusal_of,
}

-- a step's outcome: the store after it, and its answer
pub record Out : Type 0 where
  pub store : Store
  pub answer : Answer

-- an accepted call runs the plain operation, takes its lock even when it changed nothing, and notes its entry
unfoldable pub accept : Store → ℕ → Call → Out
accept d e c = record {
  store = put d (effect c d.state) e (record {
    standing = «open»;
    locks = hold (lock_of c) (transaction d e).locks;
    log = noted (entry_of c (reply c d.state)) (transaction d e).log;
  });
  answer = answer_of (reply c d.state);
}

-- with no entry left the transaction closes, and its locks are free
abbrev pub unwound : List Entry → Locks → Transaction
unwound [] l = closed_transaction
unwound (n ∷ log) l = record { standing = aborting; locks = l; log = n ∷ log }

-- `back` undoes the newest entry, if there is one, and answers the entries left
abbrev pub undo_newest : Store → ℕ → List Entry → Out
undo_newest d e [] = record { store = put d d.state e closed_transaction; answer = Left 0 }
undo_newest d e (n ∷ log) = record {
  store = put d (inverse n d.state) e (unwound log (transaction d e).locks);
  answer = Left (length log);
}

-- `undo` keeps all locks and the log
abbrev pub aborted : Transaction → Transaction
aborted t = record { standing = aborting; locks = t.locks; log = t.log }

-- a refused step changes nothing
abbrev pub refuse : Store → Refusal → Out
refuse d r = record { store = d; answer = Refused r }

-- what an accepted step does; no step is accepted whose cue is out of range
unfoldable pub perform : Store → ℕ → Action → Out
perform d e begin = record { store = put d d.state e open_transaction; answer = Ok }
perform d e commit = record { store = put d d.state e closed_transaction; answer = Ok }
perform d e abort = record { store = put d d.state e (aborted (transaction d e)); answer = Ok }
perform d e roll_back = undo_newest d e (transaction d e).log
perform d e (call None) = refuse d CueOutOfRange
perform d e (call (Some c)) = accept d e c

-- a step that meets no row is accepted
abbrev pub decided : Option Refusal → Store → ℕ → Action → Out
decided (Some r) d e a = refuse d r
decided None d e a = perform d e a

unfoldable pub step_on : Store → Option Request → Out
step_on d None = refuse d MalformedLine
step_on d (Some q) = decided (refusal_of d (Some q)) d q.transaction q.action

-- one step on a line of bytes, without its LF
unfoldable pub step_line : Store → List ℕ → Out
step_line d line = step_on d (request_of (step_of line))
