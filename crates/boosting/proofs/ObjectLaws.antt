-- The seam: the laws of the object, its inverses and its locks, through which alone the argument about traces knows
-- them. An effect keeps states good; a call without an entry changes nothing; an inverse takes its entry's call
-- back; a lock taken is held and stays held; no locks, no conflict; calls whose locks do not conflict change places.
-- Whoever changes a call, an entry or a lock proves these again, and nothing below. Assumes nothing.
use Prim.Native.Nat.{ℕ}
use mathlib.Core.Path.{◌≡◌, sym}
use mathlib.Core.Bool.{true, false}
use mathlib.Core.List.{List, [], ◌∷◌}
use Rattle.std.specs.Prelude.{None, Some}
use native.Mathlib.Omega.{arith}
use Rattle.tables.specs.Table.{Ordered, member_of, put_once_of}
use Rattle.tables.proofs.Laws.{From-weaken, member_delete_other, delete_absent, Apart-zero, insert_ordered}
use Rattle.tables.proofs.Laws.{delete_ordered, once_ordered}
use Rattle.boosting.specs.Object.{Call, add, remove, push, take, State, tail, effect, reply}
use Rattle.boosting.specs.Undo.{Entry, entry_of, inverse}
use Rattle.boosting.specs.Locks.{Lock, cue_lock, push_mode, look_mode, take_mode, lock_of, Locks, no_locks, hold, holds}
use Rattle.boosting.specs.Locks.{conflicts}
use Rattle.boosting.specs.Store.{started}
use Rattle.boosting.proofs.Sorted.{insert_comm, delete_comm, insert_head, member_once_other, once_once, once_delete}
use Rattle.boosting.proofs.Sorted.{delete_insert, member_delete_self, insert_delete, member_end}

-- the states that the laws speak of
pub record Good (s : State) : Type 0 where
  pub script : Ordered 1 s.script
  pub queue : Ordered 0 s.queue

-- two calls change places at s: the same state either way, and the same replies
pub record Commute (c d : Call) (s : State) : Type 0 where
  pub states : effect c (effect d s) ≡ effect d (effect c s)
  pub first : reply c (effect d s) ≡ reply c s
  pub second : reply d (effect c s) ≡ reply d s

abbrev pub Free : Call → Call → Type 0
Free c d = (s : State) → Good s → Commute c d s

pub Free-sym : (c d : Call) → Free c d → Free d c
Free-sym c d f s g = record { states = sym (f s g).states; first = (f s g).second; second = (f s g).first }

-- ---- good states

pub started-Good : (script : List ℕ) → Ordered 1 script → Good (started script)
unfolding started
started-Good script o = record { script = o; queue = tt }

pub tail_good : (q : List ℕ) → Ordered 0 q → Ordered 0 (tail q)
tail_good [] o = tt
tail_good (k ∷ q) o = o.1

pub effect-Good : (c : Call) (s : State) → Good s → Good (effect c s)
unfolding effect
effect-Good (add k) s g = record { script = once_ordered k s.script g.script; queue = g.queue }
effect-Good (remove k) s g = record { script = delete_ordered 1 k s.script g.script; queue = g.queue }
effect-Good (push k) s g = record {
  script = g.script;
  queue = insert_ordered 0 k s.queue (omega arith) (Apart-zero k s.queue) g.queue;
}
effect-Good take s g = record { script = g.script; queue = tail_good s.queue g.queue }
effect-Good _ s g = g

-- ---- a call without an entry changes nothing

pub idle : (c : Call) (s : State) → Good s → entry_of c (reply c s) ≡ None → effect c s ≡ s
unfolding effect entry_of reply put_once_of
idle c s g h = grind (arith, delete_absent)

-- ---- an inverse takes its entry's call back

pub cancel : (c : Call) (s : State) (n : Entry) → Good s → entry_of c (reply c s) ≡ Some n → inverse n (effect c s) ≡ s
unfolding effect entry_of reply inverse put_once_of
cancel c s n g h = grind (arith, delete_insert, insert_delete, member_delete_self, insert_head, From-weaken, g)

-- ---- locks taken are held and stay held; no locks, no conflict

pub no_locks_no_conflict : (k : Lock) → conflicts k no_locks ≡ false
unfolding conflicts no_locks member_of
no_locks_no_conflict k = grind arith

pub holds_new : (k : Lock) (l : Locks) → holds k (hold k l) ≡ true
unfolding holds hold
holds_new k l = grind (arith, member_end)

pub holds_old : (j k : Lock) (l : Locks) → holds j l ≡ true → holds j (hold k l) ≡ true
unfolding holds hold
holds_old j k l h = grind (arith, member_end)

-- ---- calls whose locks do not conflict change places

-- two locks that two transactions may hold at a time
abbrev Apart : Lock → Lock → Type 0
Apart (cue_lock a) (cue_lock b) = a ≡ b → ⊥
Apart push_mode look_mode = ⊥
Apart push_mode take_mode = ⊥
Apart look_mode push_mode = ⊥
Apart look_mode take_mode = ⊥
Apart take_mode push_mode = ⊥
Apart take_mode look_mode = ⊥
Apart take_mode take_mode = ⊥
Apart _ _ = Unit {0}

apart : (k j : Lock) (l : Locks) → conflicts k l ≡ false → holds j l ≡ true → Apart k j
unfolding conflicts holds
apart k j l f t = grind arith

commute : (c d : Call) → Apart (lock_of c) (lock_of d) → Free c d
unfolding effect lock_of reply
commute c d n s g =
    grind (arith, once_once, once_delete, delete_comm, insert_comm, member_once_other, member_delete_other, g)

-- the law of the locks: a call in conflict with none of the locks held changes places with each call whose lock is held
pub locks_sound : (c d : Call) (l : Locks) → conflicts (lock_of c) l ≡ false → holds (lock_of d) l ≡ true → Free c d
locks_sound c d l f t = commute c d (apart (lock_of c) (lock_of d) l f t)
