-- Acceptance tests: the theorems at single runs, one for each wrong desk that is easily built, and some for others. A
-- test says nothing that its theorem does not say of every run. Its proof is a computation and is checked before every
-- other proof, so a wrong definition first meets a fact that can be read: two lists of answers, two states or two
-- numbers. Proved in `proofs/Acceptance.antt`. Assumes nothing.
use Rattle.std.specs.Prelude.{ℕ, zero, suc, ◌≤◌, ◌≡◌, List, [], ◌∷◌, ◌++◌, map, length, replicate}
use Prim.Native.String.{String}
use Rattle.refusals.specs.declared.Refusal.TheVariants.{Malformed as MalformedLine}
use Rattle.lines.specs.Ascii.{bytes}
use Rattle.digits.specs.Digits.{digits_of}
use Rattle.answers.specs.declared.Answer.TheVariants.{Ok, Yes, No, Left, Refused}
use Rattle.std.specs.Result.{IsOk}
use Rattle.scripts.specs.Script.{script_of, script_or_empty}
use Rattle.boosting.specs.Store.{opened, transaction}
use Rattle.boosting.specs.Room.{reserved, queue_slots}
use Rattle.boosting.specs.Run.{Run, run, answers}
use Rattle.boosting.specs.Recovery.{recover, rising}
use Rattle.boosting.specs.Listing.{listing}
use Rattle.boosting.specs.Theorems.{Serializable, EachOnce}

-- a start text, and step lines without their LF
pub record Case : Type 0 where
  pub start : List ℕ
  pub steps : List (List ℕ)

abbrev pub stepped : Case → Run
stepped c = run (opened (script_or_empty (script_of c.start))) c.steps

-- `Term3Rising` at one case: its premise holds there, and what it says
abbrev pub Term3At : Case → Type 0
Term3At c =
    IsOk (script_of c.start)
    × Serializable (script_or_empty (script_of c.start)) (stepped c).past (recover (stepped c).store rising)

-- the text of the n cues of module 1, pin 1 at times below n
abbrev pub cues_below : ℕ → List ℕ
cues_below zero = []
cues_below (suc n) = digits_of n ++ (bytes ",1,1\n" ++ cues_below n)

-- one step on each of them
abbrev pub each_below : ℕ → String → List (List ℕ)
each_below zero word = []
each_below (suc n) word = (bytes word ++ (digits_of n ++ bytes ",1,1")) ∷ each_below n word

-- ---- the traps

-- No lock for `no` or `empty`: another edit then makes a committed answer untrue. Here `add,2` and `push,2` meet 8.
abbrev pub no_and_empty : Case
no_and_empty = record {
  start = [];
  steps = map bytes
      ("begin,1"
      ∷ "begin,2"
      ∷ "has,1,0,1,1"
      ∷ "take,1"
      ∷ "add,2,0,1,1"
      ∷ "push,2,0,1,1"
      ∷ "commit,2"
      ∷ "commit,1"
      ∷ []);
}

abbrev pub LockForNoAndEmpty : Type 0
LockForNoAndEmpty = Term3At no_and_empty

-- Locks freed at `undo` before the last `back`: another edit reads a cue half undone. Here `has,2` meets 8.
abbrev pub half_undone : Case
half_undone = record {
  start = bytes "0,1,1\n";
  steps = map bytes
      ("begin,1"
      ∷ "begin,2"
      ∷ "remove,1,0,1,1"
      ∷ "add,1,0,1,2"
      ∷ "undo,1"
      ∷ "back,1"
      ∷ "has,2,0,1,1"
      ∷ "back,1"
      ∷ "commit,2"
      ∷ []);
}

abbrev pub LocksUntilTheLastBack : Type 0
LocksUntilTheLastBack = Term3At half_undone

-- A removed cue's place given away before its edit closes: undo then has no room. Here `add,2` meets 11.
abbrev pub full_script : Case
full_script = record {
  start = cues_below 256;
  steps = map bytes
      ("begin,1" ∷ "begin,2" ∷ "remove,1,0,1,1" ∷ "add,2,256,1,1" ∷ "commit,2" ∷ "undo,1" ∷ "back,1" ∷ []);
}

abbrev pub SlotUntilItsEditCloses : Type 0
SlotUntilItsEditCloses = length (reserved (stepped full_script).store) ≤ 256

-- Undo oldest first: add, then remove of one cue ends with the cue in the script. Here recovery undoes them.
abbrev pub add_then_remove : Case
add_then_remove = record { start = []; steps = map bytes ("begin,1" ∷ "add,1,0,1,1" ∷ "remove,1,0,1,1" ∷ []) }

abbrev pub UndoNewestFirst : Type 0
UndoNewestFirst = Term3At add_then_remove

-- Counting a refused call into the replay: fullness depends on edits later undone. Here `push,5` meets 12.
abbrev pub full_queue : Case
full_queue = record {
  start = [];
  steps = map bytes
      (("begin,1" ∷ replicate 16 "push,1,0,1,1")
      ++ (("begin,2" ∷ replicate 16 "push,2,0,1,1")
      ++ (("begin,3" ∷ replicate 16 "push,3,0,1,1")
      ++ (("begin,4" ∷ replicate 16 "push,4,0,1,1") ++ ("begin,5" ∷ "push,5,0,1,1" ∷ "commit,5" ∷ [])))));
}

abbrev pub NoRefusedCallInTheReplay : Type 0
NoRefusedCallInTheReplay = Term3At full_queue

-- ---- term 3: the order of commits, and what belongs to an edit

-- one edit adds a cue, a later one removes it
abbrev pub added_then_removed : Case
added_then_removed = record {
  start = [];
  steps = map bytes
      ("begin,1" ∷ "add,1,0,1,1" ∷ "commit,1" ∷ "begin,2" ∷ "remove,2,0,1,1" ∷ "commit,2" ∷ []);
}

abbrev pub CommitsInOrder : Type 0
CommitsInOrder = Term3At added_then_removed

-- an edit is undone across a malformed line, its number begins again, and an edit with no entry stays unclosed
abbrev pub begun_again : Case
begun_again = record {
  start = [];
  steps = map bytes
      ("begin,1"
      ∷ "add,1,0,1,1"
      ∷ "add,1,05,1,1"
      ∷ "undo,1"
      ∷ "back,1"
      ∷ "begin,1"
      ∷ "commit,1"
      ∷ "begin,2"
      ∷ []);
}

abbrev pub BeginIsANewEdit : Type 0
BeginIsANewEdit = Term3At begun_again

-- ---- what stepping keeps: room

abbrev pub has_on25_cues : Case
has_on25_cues = record { start = []; steps = bytes "begin,1" ∷ each_below 25 "has,1," }

abbrev pub CueLocks24 : Type 0
CueLocks24 = length (transaction (stepped has_on25_cues).store 1).locks.cues ≤ 24

abbrev pub pushes17 : Case
pushes17 = record { start = []; steps = map bytes ("begin,1" ∷ replicate 17 "push,1,0,1,1") }

abbrev pub UndoEntries16 : Type 0
UndoEntries16 = length (transaction (stepped pushes17).store 1).log ≤ 16

abbrev pub QueueSlots64 : Type 0
QueueSlots64 = queue_slots (stepped full_queue).store ≤ 64

-- ---- term 2 and the lock listing

-- an edit alone waits for nobody, itself included, and hears how many entries are left
abbrev pub alone : List (List ℕ)
alone =
    map bytes
    ("begin,1" ∷ "has,1,0,1,1" ∷ "add,1,0,1,1" ∷ "push,1,0,1,1" ∷ "add,1,05,1,1" ∷ "undo,1" ∷ "back,1" ∷ [])

abbrev pub AnswersAlone : Type 0
AnswersAlone = answers (opened []) alone ≡ Ok ∷ No ∷ Yes ∷ Ok ∷ Refused MalformedLine ∷ Ok ∷ Left 1 ∷ []

abbrev pub one_push : Case
one_push = record { start = []; steps = map bytes ("begin,1" ∷ "push,1,0,1,1" ∷ []) }

abbrev pub ModeListedOnce : Type 0
ModeListedOnce = EachOnce (listing (stepped one_push).store)
