-- The theorems on what opening, stepping and recovery keep, and that an aborting transaction unwinds in as many steps
-- as it has entries. Assumes nothing.
use Prim.Native.Nat.{ℕ, zero, suc, ◌≤◌, max}
use mathlib.Core.Path.{◌≡◌, refl}
use mathlib.Core.List.{List, [], ◌∷◌}
use Rattle.std.specs.Prelude.{Bool, true, false, if◌then◌else◌, Option, None, Some}
use native.Mathlib.Omega.{arith}
use lib.ListN.{length, replicate}
use Rattle.cues.specs.Cue.{in_range, key_of}
use Rattle.cues.specs.declared.Cue.{Cue}
use Rattle.cues.proofs.Theorems.{key_is_cue_key}
use Rattle.steps.specs.declared.reading.Step.{Step}
use Rattle.steps.specs.declared.reading.Step.TheVariants.{WithNumber, WithCue}
use Rattle.steps.specs.Step.{step_of}
use Rattle.tables.proofs.Laws.{subset_length}
use Rattle.scripts.specs.Theorems.{SoundScript}
use Rattle.scripts.proofs.Theorems.{read_is_sound}
use Rattle.boosting.specs.Undo.{Entry}
use Rattle.boosting.specs.Store.{closed_transaction, Store, started, opened, transaction}
use Rattle.boosting.specs.Room.{reserved_by, reserved_in, reserved, takes_by, takes_in}
use Rattle.boosting.specs.Rows.{Action, begin, commit, abort, roll_back, call, Request, request, cue_call, request_of}
use Rattle.boosting.specs.Rows.{refusal_of}
use Rattle.boosting.specs.Step.{perform, step_on, step_line}
use Rattle.boosting.specs.Run.{Run, advance, run_from}
use Rattle.boosting.specs.Sound.{AllSound, Sound, ActionKey, RequestKey}
use Rattle.boosting.specs.Theorems.{OpenedIsSound, SteppingKeepsSound, RunKeepsSound, RecoveryKeepsSound, SoundHasRoom}
use Rattle.boosting.specs.Theorems.{AbortingUnwinds}
use Rattle.boosting.proofs.Slots.{script-reserved}
use Rattle.boosting.proofs.Accepted.{accepted_valid, accepted_call, step_case}
use Rattle.boosting.proofs.Unwinding.{recovery_keeps, further, Aborting, closes, stays}
use Rattle.boosting.proofs.Keeping.{closed_sound, transaction-Sound, begin_sound, close_sound, abort_sound, undo_sound}
use Rattle.boosting.proofs.Keeping.{call_sound}

-- ---- opening

all_closed : (n : ℕ) → AllSound (replicate n closed_transaction)
all_closed zero = tt
all_closed (suc n) = (closed_sound, all_closed n)

pub keys_sound : (keys : List ℕ) → SoundScript keys → Sound (opened keys)
unfolding opened started closed_transaction reserved_in reserved_by takes_in takes_by
keys_sound keys s = record {
  script_rising = s.rising;
  script_in_range = s.in_range;
  queue_rising = tt;
  queue_in_range = tt;
  eight = refl;
  transactions_sound = all_closed 8;
  script_slots = s.at_most;
  queue_slots = omega arith;
}

pub opened_is_sound : OpenedIsSound
opened_is_sound text = keys_sound _ (read_is_sound text)

-- ---- one step

pub request_key : (s : Option Step) → RequestKey (request_of s)
request_key None = tt
request_key (Some (WithNumber w e)) = grind arith
request_key (Some (WithCue w e n)) = go (in_range n.time n.«module» n.pin) refl
  where
    cue : Cue
    cue = record { time = n.time; «module» = n.«module»; pin = n.pin }

    go : (b : Bool) → in_range n.time n.«module» n.pin ≡ b
        → ActionKey (call (if b then Some (cue_call w (key_of cue)) else None))
    go true h = let k = key_is_cue_key cue h in grind arith
    go false h = tt

perform-Sound : (d : Store) (e : ℕ) (a : Action) → Sound d → RequestKey (request e a)
    → refusal_of d (request e a) ≡ None → Sound (perform d e a).store
unfolding perform
perform-Sound d e begin v k h = begin_sound d e v (accepted_valid d e begin h)
perform-Sound d e commit v k h = close_sound d e v (accepted_valid d e commit h)
perform-Sound d e abort v k h = abort_sound d e v (accepted_valid d e abort h)
perform-Sound d e roll_back v k h = undo_sound d e (transaction d e).log v (accepted_valid d e roll_back h) refl
perform-Sound d e (call None) v k h = v
perform-Sound d e (call (Some c)) v k h =
    call_sound d e c v (accepted_valid d e (call (Some c)) h) k (accepted_call d e c h)

-- a refused request changes nothing
pub request_keeps_sound : (d : Store) (q : Option Request) → Sound d → RequestKey q → Sound (step_on d q).store
unfolding step_on
request_keeps_sound d None v k = v
request_keeps_sound d (Some q) v k =
    step_case d q.transaction q.action (λ o. Sound o.store) (λ r h. v)
    (perform-Sound d q.transaction q.action v k)

pub stepping_keeps_sound : SteppingKeepsSound
unfolding step_line
stepping_keeps_sound d line v = request_keeps_sound d (request_of (step_of line)) v (request_key (step_of line))

-- ---- a run

from_keeps_sound : (lines : List (List ℕ)) (r : Run) → Sound r.store → Sound (run_from r lines).store
unfolding run_from advance
from_keeps_sound [] r v = v
from_keeps_sound (l ∷ lines) r v = from_keeps_sound lines (advance r l) (stepping_keeps_sound r.store l v)

pub run_keeps_sound : RunKeepsSound
run_keeps_sound d lines v = from_keeps_sound lines _ v

-- ---- recovery

pub recovery_keeps_sound : RecoveryKeepsSound
recovery_keeps_sound d order v =
    recovery_keeps Sound (λ d e v. request_keeps_sound d (request e roll_back) v tt)
    (λ d e v. request_keeps_sound d (request e abort) v tt) order d v

-- ---- room

pub sound_has_room : SoundHasRoom
sound_has_room d v =
    let s = d.state.script in
    let h : length s ≤ length (reserved d) =
    subset_length s (reserved d) v.script_rising (script-reserved d) in (
      record { rising = v.script_rising; in_range = v.script_in_range; at_most = omega (arith, h, v.script_slots) },
      omega (arith, v.queue_slots),
    )

-- ---- unwinding

steps_of : (log : List Entry) → max 1 (length log) ≡ suc (further log)
steps_of log = grind arith

pub aborting_unwinds : AbortingUnwinds
aborting_unwinds d e v h a =
    let m = further (transaction d e).log in
    let q = steps_of (transaction d e).log in
    let g : Aborting d e m = record { eight = v.eight; standing = a; steps = refl } in
    record {
      after = rw q (closes e h m m d (omega arith) g);
      before = λ n b. stays e h n m d (rw q at b) g;
      at_most = omega (arith, (transaction-Sound d e v).log_at_most);
    }
