-- The abstract locks: which one a call takes, what a transaction holds, and which locks conflict. Assumes nothing.
use Rattle.std.specs.Prelude.{ℕ, Bool, true, false, if◌then◌else◌, ◌||◌, List, [], ◌∷◌, ◌++◌}
use Rattle.tables.specs.Table.{member_of}
use Rattle.boosting.specs.Object.{Call, add, remove, has, push, min, take}
-- a lock on a cue, or one of the queue's three modes: push, look, take
pub use Rattle.vocabulary.specs.declared.Lock.{Lock}
pub use Rattle.vocabulary.specs.declared.Lock.TheVariants.{
  Cue as cue_lock,
  Push as push_mode,
  Look as look_mode,
  Take as take_mode,
}

unfoldable pub lock_of : Call → Lock
lock_of (add k) = cue_lock k
lock_of (remove k) = cue_lock k
lock_of (has k) = cue_lock k
lock_of (push k) = push_mode
lock_of min = look_mode
lock_of take = take_mode

-- the locks that a transaction holds: cues, each once, and modes, of which it may hold several
pub record Locks : Type 0 where
  pub cues : List ℕ
  pub pushes : Bool
  pub looks : Bool
  pub takes : Bool

unfoldable pub no_locks : Locks
no_locks = record { cues = []; pushes = false; looks = false; takes = false }

-- the locks with one more, unless it is held already
unfoldable pub hold : Lock → Locks → Locks
hold (cue_lock k) l = record {
  cues = if member_of k l.cues then l.cues else l.cues ++ (k ∷ []);
  pushes = l.pushes;
  looks = l.looks;
  takes = l.takes;
}
hold push_mode l = record { cues = l.cues; pushes = true; looks = l.looks; takes = l.takes }
hold look_mode l = record { cues = l.cues; pushes = l.pushes; looks = true; takes = l.takes }
hold take_mode l = record { cues = l.cues; pushes = l.pushes; looks = l.looks; takes = true }

unfoldable pub holds : Lock → Locks → Bool
holds (cue_lock k) l = member_of k l.cues
holds push_mode l = l.pushes
holds look_mode l = l.looks
holds take_mode l = l.takes

-- a lock conflicts with those that another transaction holds: a cue lock with any lock on the same cue; in the queue
-- push goes with push, look goes with look, and every other pair of modes conflicts
unfoldable pub conflicts : Lock → Locks → Bool
conflicts (cue_lock k) l = member_of k l.cues
conflicts push_mode l = l.looks || l.takes
conflicts look_mode l = l.pushes || l.takes
conflicts take_mode l = l.pushes || (l.looks || l.takes)
