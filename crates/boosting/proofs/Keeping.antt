-- Sound after each kind of accepted step. A step puts a state and one transaction: what it puts must be sound by
-- itself, and the slots must suffice (`Fits`); nothing else can change. Assumes nothing.
use Prim.Native.Nat.{ℕ, zero, suc, ◌+◌, ◌≤◌}
use mathlib.Core.Path.{◌≡◌, refl, ◌∙◌}
use mathlib.Core.Bool.{Bool, true, false, cond, not, ◌&&◌, ◌||◌}
use mathlib.Core.List.{List, [], ◌∷◌, ◌++◌}
use Rattle.std.specs.Prelude.{Option, Some}
use native.Mathlib.Omega.{arith}
use lib.ListN.{length, get_or, set, length-set}
use Rattle.std.proofs.lemmas.Bool.{cases_Bool}
use Rattle.std.proofs.lemmas.List.{length_push}
use Rattle.cues.specs.Cue.{CueKey}
use Rattle.tables.specs.Table.{Ordered, member_of, insert_of, delete_of, put_once_of}
use Rattle.tables.proofs.Laws.{Apart-zero, insert_ordered, delete_ordered, once_ordered, member_once, length_insert}
use Rattle.tables.proofs.Laws.{length_delete, delete_absent}
use Rattle.scripts.specs.Theorems.{AllCues}
use Rattle.scripts.proofs.Theorems.{all_insert}
use Rattle.boosting.specs.Object.{Call, State, effect, reply}
use Rattle.boosting.specs.Undo.{Entry, added, entry_of, inverse, noted}
use Rattle.boosting.specs.Locks.{Locks, no_locks, lock_of, hold}
use Rattle.boosting.specs.Store.{Transaction, closed_transaction, open_transaction, Store, valid, transaction, put}
use Rattle.boosting.specs.Room.{reserved, takes_by, takes_in, script_full}
use Rattle.boosting.specs.Step.{accept, unwound, undo_newest, aborted}
use Rattle.boosting.specs.Sound.{Once, key_in, AllEntries, SoundTransaction, AllSound, Sound, CallKey}
use Rattle.boosting.proofs.Sorted.{member_end}
use Rattle.boosting.proofs.Slots.{named, script-reserved, named-reserved, slots_put, takes_put}
use Rattle.boosting.proofs.Accepted.{CallAccepted, called}

-- ---- keys in range

all_once : (k : ℕ) (l : List ℕ) → CueKey k → AllCues l → AllCues (put_once_of k l)
unfolding put_once_of
all_once k l g c = grind (arith, all_insert)

all_delete : (k : ℕ) (l : List ℕ) → AllCues l → AllCues (delete_of k l)
unfolding delete_of
all_delete k [] c = tt
all_delete k (x ∷ l) c = grind (arith, all_delete k l c.1)

all_append : (k : ℕ) (l : List ℕ) → CueKey k → AllCues l → AllCues (l ++ (k ∷ []))
all_append k [] g c = (g, tt)
all_append k (x ∷ l) g c = (c.0, all_append k l g c.1)

-- ---- locks that are held once

Once-append : (k : ℕ) (l : List ℕ) → member_of k l ≡ false → Once l → Once (l ++ (k ∷ []))
unfolding member_of
Once-append k [] m o = (refl, tt)
Once-append k (x ∷ l) m o = grind (arith, member_end x k l, Once-append k l)

-- ---- states

record SoundState (s : State) : Type 0 where
  pub script_rising : Ordered 1 s.script
  pub script_in_range : AllCues s.script
  pub queue_rising : Ordered 0 s.queue
  pub queue_in_range : AllCues s.queue

state_of_lem : (d : Store) → Sound d → SoundState d.state
state_of_lem d v = grind arith

insert_rising : (k : ℕ) (q : List ℕ) → Ordered 0 q → Ordered 0 (insert_of k q)
insert_rising k q = insert_ordered 0 k q (omega arith) (Apart-zero k q)

ruleset lists_sound = (once_ordered, delete_ordered, insert_rising, all_once, all_delete, all_insert)

effect_sound : (c : Call) (s : State) → CallKey c → SoundState s → SoundState (effect c s)
unfolding effect
effect_sound c s g v = grind (arith, lists_sound, v)

inverse_sound : (n : Entry) (s : State) → CueKey (key_in n) → SoundState s → SoundState (inverse n s)
unfolding inverse
inverse_sound n s g v = grind (arith, lists_sound, v)

-- ---- transactions

pub closed_sound : SoundTransaction closed_transaction
unfolding closed_transaction no_locks
closed_sound = grind arith

open_sound : SoundTransaction open_transaction
unfolding open_transaction no_locks
open_sound = grind arith

aborted_sound : (t : Transaction) → SoundTransaction t → SoundTransaction (aborted t)
aborted_sound t u = grind arith

-- what is left after a rollback step
unwound_sound : (t : Transaction) (n : Entry) (log : List Entry) → SoundTransaction t → t.log ≡ n ∷ log
    → SoundTransaction (unwound log t.locks)
unwound_sound t n log u q = grind (arith, closed_sound)

-- and after a call
called_sound : (d : Store) (e : ℕ) (c : Call) → SoundState d.state → SoundTransaction (transaction d e) → CallKey c
    → CallAccepted d e c → SoundTransaction (called d e c)
unfolding lock_of hold entry_of reply
called_sound d e c w u k g = grind (arith, length_push, Once-append, all_append)

sound_at : (ts : List Transaction) (i : ℕ) → AllSound ts → SoundTransaction (get_or ts i closed_transaction)
sound_at [] i v = closed_sound
sound_at (t ∷ ts) zero v = v.0
sound_at (t ∷ ts) (suc i) v = sound_at ts i v.1

sound_set : (ts : List Transaction) (i : ℕ) (t : Transaction) → AllSound ts → SoundTransaction t → AllSound (set ts i t)
sound_set [] i t v g = tt
sound_set (u ∷ ts) zero t v g = (g, v.1)
sound_set (u ∷ ts) (suc i) t v g = (v.0, sound_set ts i t v.1 g)

pub transaction-Sound : (d : Store) (e : ℕ) → Sound d → SoundTransaction (transaction d e)
unfolding transaction
transaction-Sound d zero v = closed_sound
transaction-Sound d (suc i) v = sound_at d.transactions i v.transactions_sound

-- ---- one state and one transaction put

-- the slots suffice for this state, with this log in place of that of transaction e: some list of at most 256 keys has
-- all slots so far, the script and the keys that the log names
record Fits (d : Store) (e : ℕ) (s : State) (log : List Entry) : Type 0 where
  pub slots : List ℕ
  pub at_most : length slots ≤ 256
  pub kept : (x : ℕ) → member_of x (reserved d) ≡ true → member_of x slots ≡ true
  pub script : (x : ℕ) → member_of x s.script ≡ true → member_of x slots ≡ true
  pub names : (x : ℕ) → named x log ≡ true → member_of x slots ≡ true
  pub queue : length s.queue + takes_by log + takes_in d.transactions ≤ 64 + takes_by (transaction d e).log

put-Sound : (d : Store) (s : State) (e : ℕ) (t : Transaction) → Sound d → valid e ≡ true → SoundState s
    → SoundTransaction t → Fits d e s t.log → Sound (put d s e t)
unfolding put
put-Sound d s zero t v h g u f = cc
put-Sound d s (suc i) t v h g u f = record {
  script_rising = g.script_rising;
  script_in_range = g.script_in_range;
  queue_rising = g.queue_rising;
  queue_in_range = g.queue_in_range;
  eight = length-set d.transactions i t ∙ v.eight;
  transactions_sound = sound_set d.transactions i t v.transactions_sound u;
  script_slots =
      omega (
        arith,
        f.at_most,
        slots_put d s (suc i) t f.slots g.script_rising f.script f.names f.kept,
      );
  queue_slots = omega (arith, f.queue, takes_put d s (suc i) t h v.eight);
}

-- no slot more is needed
as_before : (d : Store) (e : ℕ) (s : State) (log : List Entry) → Sound d
    → ((x : ℕ) → member_of x s.script ≡ true → member_of x (reserved d) ≡ true)
    → ((x : ℕ) → named x log ≡ true → named x (transaction d e).log ≡ true)
    → length s.queue + takes_by log + takes_in d.transactions ≤ 64 + takes_by (transaction d e).log
    → Fits d e s log
as_before d e s log v f g h = record {
  slots = reserved d;
  at_most = v.script_slots;
  kept = λ x m. m;
  script = f;
  names = λ x m. named-reserved d e x (g x m);
  queue = h;
}

-- ---- beginning, closing and aborting: the state stays

empty_fits : (d : Store) (e : ℕ) → Sound d → Fits d e d.state []
unfolding named takes_by
empty_fits d e v =
    as_before d e d.state [] v (script-reserved d) (λ x m. absurd (mathlib.Core.Bool.false≢true m))
    (omega (arith, v.queue_slots))

module _ (d : Store) (e : ℕ) (v : Sound d) (h : valid e ≡ true) where
  pub begin_sound : Sound (put d d.state e open_transaction)
  unfolding open_transaction
  begin_sound = put-Sound d d.state e open_transaction v h (state_of_lem d v) open_sound (empty_fits d e v)

  pub close_sound : Sound (put d d.state e closed_transaction)
  unfolding closed_transaction
  close_sound = put-Sound d d.state e closed_transaction v h (state_of_lem d v) closed_sound (empty_fits d e v)

  pub abort_sound : Sound (put d d.state e (aborted (transaction d e)))
  abort_sound =
      put-Sound d d.state e (aborted (transaction d e)) v h (state_of_lem d v)
      (aborted_sound (transaction d e) (transaction-Sound d e v))
      (as_before d e d.state (transaction d e).log v (script-reserved d) (λ x m. m) (omega (arith, v.queue_slots)))

-- ---- a rollback step

member_delete : (x k : ℕ) (l : List ℕ) → member_of x (delete_of k l) ≡ true → member_of x l ≡ true
unfolding member_of delete_of
member_delete x k [] m = m
member_delete x k (y ∷ l) m = grind (arith, member_delete x k l)

length_delete_le : (k : ℕ) (l : List ℕ) → length (delete_of k l) ≤ length l
length_delete_le k l = grind (arith, cases_Bool (member_of k l), length_delete k l, delete_absent k l)

-- an entry's key has a slot by the entry itself, so its inverse needs no new one; nor does the inverse of a take, whose
-- entry held a queue slot
undone_fits : (d : Store) (e : ℕ) (n : Entry) (log : List Entry) → Sound d → (transaction d e).log ≡ n ∷ log
    → Fits d e (inverse n d.state) log
unfolding inverse named takes_by
undone_fits d e n log v q =
    as_before d e (inverse n d.state) log v
    (λ x m. grind (arith, member_delete, member_once, script-reserved d x, named-reserved d e x))
    (λ x m. grind arith)
    (grind (arith, v.queue_slots, length_delete_le, length_insert))

pub unwound-log : (log : List Entry) (l : Locks) → (unwound log l).log ≡ log
unfolding closed_transaction
unwound-log log l = grind arith

pub undo_sound : (d : Store) (e : ℕ) (log : List Entry) → Sound d → valid e ≡ true → (transaction d e).log ≡ log
    → Sound (undo_newest d e log).store
undo_sound d e [] v h q = close_sound d e v h
undo_sound d e (n ∷ log) v h q =
    let t = transaction d e in
    let u = transaction-Sound d e v in
    let a : AllEntries (n ∷ log) = rw q at u.log_in_range in
    put-Sound d (inverse n d.state) e (unwound log t.locks) v h (inverse_sound n d.state a.0 (state_of_lem d v))
    (unwound_sound t n log u q) (rw (unwound-log log t.locks) (undone_fits d e n log v q))

-- ---- a call

-- the slots with that of a new entry
abbrev slots_with : Option Entry → List ℕ → List ℕ
slots_with (Some (added k)) slots = put_once_of k slots
slots_with _ slots = slots

slots_at_most : (n : Option Entry) (slots : List ℕ) → script_full n slots ≡ false → length slots ≤ 256
    → length (slots_with n slots) ≤ 256
unfolding put_once_of
slots_at_most n slots f h = grind (arith, length_insert)

call_fits : (d : Store) (e : ℕ) (c : Call) → Sound d → CallAccepted d e c
    → Fits d e (effect c d.state) (noted (entry_of c (reply c d.state)) (transaction d e).log)
unfolding effect entry_of reply named takes_by
call_fits d e c v g = record {
  slots = slots_with (entry_of c (reply c d.state)) (reserved d);
  at_most = slots_at_most (entry_of c (reply c d.state)) (reserved d) g.script v.script_slots;
  kept = λ x m. grind (arith, member_once);
  -- an added cue has its slot by the new entry
  script = λ x m. grind (arith, member_once, member_delete, script-reserved d x);
  -- a removed cue has its slot by the script before
  names = λ x m. grind (arith, member_once, script-reserved d x, named-reserved d e x);
  -- a push needs one queue slot more; a take gives the slot of its cue to its entry
  queue = grind (arith, length_insert, g.queue, v.queue_slots);
}

pub call_sound : (d : Store) (e : ℕ) (c : Call) → Sound d → valid e ≡ true → CallKey c → CallAccepted d e c
    → Sound (accept d e c).store
unfolding accept
call_sound d e c v h k g =
    let w = state_of_lem d v in
    put-Sound d (effect c d.state) e (called d e c) v h (effect_sound c d.state k w)
    (called_sound d e c w (transaction-Sound d e v) k g) (call_fits d e c v g)
