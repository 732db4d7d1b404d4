-- The shared object: a script, which is a set of cues, and a queue, which is a collection of cues, with the six calls
-- on them. The desk runs these plain operations under locks; the replay runs the same two functions and nothing else.
-- A cue is held by its key (`cues`), a set and a collection as the sorted list of their keys. Assumes nothing.
use Rattle.std.specs.Prelude.{ℕ, if◌then◌else◌, List, [], ◌∷◌}
use Rattle.cues.specs.Cue.{cue_of}
use Rattle.answers.specs.declared.Answer.{Answer}
use Rattle.answers.specs.declared.Answer.TheVariants.{Ok, Yes, No, Empty, Cue}
use Rattle.tables.specs.Table.{member_of, insert_of, delete_of, put_once_of}
-- the calls, and what a call is answered, a cue by its key: the code's own types, in small letters here
pub use Rattle.vocabulary.specs.declared.Call.{Call}
pub use Rattle.vocabulary.specs.declared.Call.TheVariants.{
  Add as add,
  Remove as remove,
  Has as has,
  Push as push,
  Min as min,
  Take as take,
}
pub use Rattle.vocabulary.specs.declared.Reply.{Reply}
pub use Rattle.vocabulary.specs.declared.Reply.TheVariants.{
  Yes as is_yes,
  No as is_no,
  Ok as is_ok,
  Empty as is_empty,
  Cue as is_cue,
}

pub record State : Type 0 where
  pub script : List ℕ
  pub queue : List ℕ

-- without the first cue, the least
abbrev pub tail : List ℕ → List ℕ
tail [] = []
tail (k ∷ q) = q

abbrev pub least : List ℕ → Reply
least [] = is_empty
least (k ∷ q) = is_cue k

-- the script after a call
abbrev pub script_after : Call → List ℕ → List ℕ
script_after (add k) x = put_once_of k x
script_after (remove k) x = delete_of k x
script_after (has k) x = x
script_after (push k) x = x
script_after min x = x
script_after take x = x

-- the queue after a call
abbrev pub queue_after : Call → List ℕ → List ℕ
queue_after (add k) q = q
queue_after (remove k) q = q
queue_after (has k) q = q
queue_after (push k) q = insert_of k q
queue_after min q = q
queue_after take q = tail q

unfoldable pub effect : Call → State → State
effect c s = record { script = script_after c s.script; queue = queue_after c s.queue }

unfoldable pub reply : Call → State → Reply
reply (add k) s = if member_of k s.script then is_no else is_yes
reply (remove k) s = if member_of k s.script then is_yes else is_no
reply (has k) s = if member_of k s.script then is_yes else is_no
reply (push k) s = is_ok
reply min s = least s.queue
reply take s = least s.queue

-- the answer line's answer
abbrev pub answer_of : Reply → Answer
answer_of is_yes = Yes
answer_of is_no = No
answer_of is_ok = Ok
answer_of is_empty = Empty
answer_of (is_cue k) = Cue (cue_of k)
