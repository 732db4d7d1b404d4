-- What follows from a request being refused or not, and which requests of recovery are accepted: read off the rows,
-- once. Assumes nothing.
use Prim.Native.Nat.{ℕ}
use mathlib.Core.Path.{◌≡◌, refl, ap}
use mathlib.Core.Bool.{true, false}
use Rattle.std.specs.Prelude.{Option, None, Some}
use native.Mathlib.Omega.{arith}
use Rattle.refusals.specs.declared.Refusal.{Refusal}
use Rattle.refusals.specs.declared.Refusal.TheVariants.{Malformed as MalformedLine}
use Rattle.boosting.specs.Object.{Call, reply}
use Rattle.boosting.specs.Undo.{entry_of, noted}
use Rattle.boosting.specs.Locks.{lock_of, hold}
use Rattle.boosting.specs.Store.{Transaction, Standing, closed, «open», aborting, Store, valid, transaction, blocker}
use Rattle.boosting.specs.Room.{reserved, queue_slots, locks_full, log_full, script_full, queue_full}
use Rattle.boosting.specs.Rows.{Action, begin, abort, roll_back, call, Request, request, first_met, refusal_of}
use Rattle.boosting.specs.Step.{Out, perform, refuse, decided, step_on}

abbrev pub Accepts : Store → ℕ → Action → Type 0
Accepts d e a = refusal_of d (request e a) ≡ None

-- ---- what acceptance tells

pub accepted_valid : (d : Store) (e : ℕ) (a : Action) → Accepts d e a → valid e ≡ true
unfolding refusal_of first_met
accepted_valid d e a h = grind arith

-- the standing that an action asks for
abbrev pub asks : Action → Standing
asks begin = closed
asks roll_back = aborting
asks _ = «open»

-- rows 3 to 6 leave no other
pub accepted_standing : (d : Store) (e : ℕ) (a : Action) → Accepts d e a → (transaction d e).standing ≡ asks a
unfolding refusal_of first_met
accepted_standing d e a h = grind arith

-- an accepted call has a cue in range
pub no_call : (d : Store) (e : ℕ) {P : Type 0} → Accepts d e (call None) → P
unfolding refusal_of first_met
no_call d e h = absurd (grind arith)

-- what an accepted call found: no conflict, and room
pub record CallAccepted (d : Store) (e : ℕ) (c : Call) : Type 0 where
  pub free : blocker e (lock_of c) 1 d.transactions ≡ None
  pub locks : locks_full (lock_of c) (transaction d e).locks ≡ false
  pub log : log_full (entry_of c (reply c d.state)) (transaction d e).log ≡ false
  pub script : script_full (entry_of c (reply c d.state)) (reserved d) ≡ false
  pub queue : queue_full (entry_of c (reply c d.state)) (queue_slots d) ≡ false

pub accepted_call : (d : Store) (e : ℕ) (c : Call) → Accepts d e (call (Some c)) → CallAccepted d e c
unfolding refusal_of first_met
accepted_call d e c h = grind arith

-- what an accepted call leaves of its transaction
abbrev pub called : Store → ℕ → Call → Transaction
called d e c = record {
  standing = «open»;
  locks = hold (lock_of c) (transaction d e).locks;
  log = noted (entry_of c (reply c d.state)) (transaction d e).log;
}

-- ---- what is refused, and what is accepted

pub malformed_refused : (d : Store) → refusal_of d None ≡ Some MalformedLine
unfolding refusal_of
malformed_refused d = refl

pub step_refused : (d : Store) (q : Option Request) (r : Refusal) → refusal_of d q ≡ Some r → step_on d q ≡ refuse d r
unfolding step_on
step_refused d None r h = let e : MalformedLine ≡ r = cc (malformed_refused d) in ap (refuse d) e
step_refused d (Some q) r h = rw h refl

pub step_accepted : (d : Store) (e : ℕ) (a : Action) → Accepts d e a → step_on d (request e a) ≡ perform d e a
unfolding step_on
step_accepted d e a h = rw h refl

-- a step is refused, or accepted and performed
pub step_case : (d : Store) (e : ℕ) (a : Action) (P : Out → Type 0)
    → ((r : Refusal) → refusal_of d (request e a) ≡ Some r → P (refuse d r)) → (Accepts d e a → P (perform d e a))
    → P (step_on d (request e a))
unfolding step_on
step_case d e a P f g = go (refusal_of d (request e a)) refl
  where
    go : (o : Option Refusal) → refusal_of d (request e a) ≡ o → P (decided o d e a)
    go (Some r) h = f r h
    go None h = g h

pub Accepts-abort : (d : Store) (e : ℕ) → valid e ≡ true → (transaction d e).standing ≡ «open» → Accepts d e abort
unfolding refusal_of first_met
Accepts-abort d e h s = rw (h, s) refl

pub Accepts-roll_back : (d : Store) (e : ℕ) → valid e ≡ true → (transaction d e).standing ≡ aborting
    → Accepts d e roll_back
unfolding refusal_of first_met
Accepts-roll_back d e h s = rw (h, s) refl
