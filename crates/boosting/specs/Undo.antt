-- The undo log: what a call notes, and the inverse that takes it back. Users call it the log. Assumes nothing.
use Rattle.std.specs.Prelude.{ℕ, List, ◌∷◌, Option, None, Some}
use Rattle.tables.specs.Table.{insert_of, delete_of, put_once_of}
use Rattle.boosting.specs.Object.{
  Call,
  add,
  remove,
  has,
  push,
  min,
  take,
  Reply,
  is_yes,
  is_no,
  is_ok,
  is_empty,
  is_cue,
  State,
}
-- what is noted, with the cue's key
pub use Rattle.vocabulary.specs.declared.Entry.{Entry}
pub use Rattle.vocabulary.specs.declared.Entry.TheVariants.{
  Added as added,
  Removed as removed,
  Pushed as pushed,
  Taken as taken,
}

-- noted on `yes`
abbrev pub on_yes : Reply → Entry → Option Entry
on_yes is_yes n = Some n
on_yes is_no n = None
on_yes is_ok n = None
on_yes is_empty n = None
on_yes (is_cue k) n = None

-- noted on a cue
abbrev pub on_cue : Reply → Option Entry
on_cue is_yes = None
on_cue is_no = None
on_cue is_ok = None
on_cue is_empty = None
on_cue (is_cue k) = Some (taken k)

-- the entry of an accepted call, by its answer
unfoldable pub entry_of : Call → Reply → Option Entry
entry_of (add k) a = on_yes a (added k)
entry_of (remove k) a = on_yes a (removed k)
entry_of (has k) a = None
entry_of (push k) a = Some (pushed k)
entry_of min a = None
entry_of take a = on_cue a

-- the inverse of a `yes` add is a remove, of a `yes` remove an add
abbrev pub script_undone : Entry → List ℕ → List ℕ
script_undone (added k) x = delete_of k x
script_undone (removed k) x = put_once_of k x
script_undone (pushed k) x = x
script_undone (taken k) x = x

-- the inverse of a push is the removal of one equal cue, of a take a push
abbrev pub queue_undone : Entry → List ℕ → List ℕ
queue_undone (added k) q = q
queue_undone (removed k) q = q
queue_undone (pushed k) q = delete_of k q
queue_undone (taken k) q = insert_of k q

unfoldable pub inverse : Entry → State → State
inverse n s = record { script = script_undone n s.script; queue = queue_undone n s.queue }

-- the log with the entry in front, if there is one: newest first
abbrev pub noted : Option Entry → List Entry → List Entry
noted None log = log
noted (Some n) log = n ∷ log
