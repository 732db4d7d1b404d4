-- The worked steps of the rules (docs/RULES.md, 12): a start script, each step with its answer, and the script and
-- the queue that recovery with rising numbers leaves. Those marked † are one list with one theorem over it; the whole
-- run, and the unmarked ones with the small examples of the rows and the traps, are two more. Proved in
-- `proofs/Worked.antt`. Assumes nothing.
use Rattle.std.specs.Prelude.{ℕ, zero, suc, ◌+◌, ◌≡◌, Bool, true, List, [], ◌∷◌, ◌++◌, map}
use Prim.Native.String.{String}
use Rattle.lines.specs.Ascii.{bytes}
use Rattle.digits.specs.Digits.{digits_of}
use Rattle.answers.specs.Answer.{answer_text}
use Rattle.std.specs.Result.{is_ok}
use Rattle.scripts.specs.Script.{script_of, script_or_empty}
use Rattle.scripts.specs.ScriptText.{text_of}
use Rattle.boosting.specs.Store.{opened}
use Rattle.boosting.specs.Run.{run, answers}
use Rattle.boosting.specs.Recovery.{recover, rising}

-- a step line without its LF, and its answer line with its LF
pub record Exchange : Type 0 where
  pub step : List ℕ
  pub answer : List ℕ

infix 70 ◌gives◌
abbrev pub ◌gives◌ : String → String → Exchange
step gives answer = record { step = bytes step; answer = bytes answer ++ (10 ∷ []) }

-- n steps on the cues of module 1, pin 1 from a time on, a millisecond apart, with one answer
abbrev pub each : ℕ → String → ℕ → String → List Exchange
each zero word time answer = []
each (suc n) word time answer =
    record { step = bytes word ++ (digits_of time ++ bytes ",1,1"); answer = bytes answer ++ (10 ∷ []) }
    ∷ each n word (time + 1) answer

-- the text of n such cues
abbrev pub cues_from : ℕ → ℕ → List ℕ
cues_from zero time = []
cues_from (suc n) time = digits_of time ++ (bytes ",1,1\n" ++ cues_from n (time + 1))

-- the text of the start script, the steps, and the texts of the closing script and queue
pub record Worked : Type 0 where
  pub start : List ℕ
  pub steps : List Exchange
  pub script : List ℕ
  pub queue : List ℕ

-- the † lines, in their order
abbrev pub marked : List Worked
marked =
    -- Empty script, edits 1 and 2 open: `has,1,0,1,1` is `no`; then `add,2,0,1,1` is `refused,8,1`.
    record {
      start = [];
      steps =
          "begin,1" gives "ok"
          ∷ "begin,2" gives "ok"
          ∷ "has,1,0,1,1" gives "no"
          ∷ "add,2,0,1,1" gives "refused,8,1"
          ∷ [];
      script = [];
      queue = [];
    }
    -- Time 3,599,999, module 99, pin 32 is accepted; 3,600,000, module 0 or 100, pin 0 or 33 meets 7.
    ∷ record {
      start = [];
      steps =
          "begin,1" gives "ok"
          ∷ "add,1,3599999,99,32" gives "yes"
          ∷ "add,1,3600000,99,32" gives "refused,7"
          ∷ "add,1,3599999,0,32" gives "refused,7"
          ∷ "add,1,3599999,100,32" gives "refused,7"
          ∷ "add,1,3599999,99,0" gives "refused,7"
          ∷ "add,1,3599999,99,33" gives "refused,7"
          ∷ "commit,1" gives "ok"
          ∷ [];
      script = bytes "3599999,99,32\n";
      queue = [];
    }
    -- The same add twice in one edit: `yes`, `no`, one entry.
    ∷ record {
      start = [];
      steps =
          "begin,1" gives "ok"
          ∷ "add,1,0,1,1" gives "yes"
          ∷ "add,1,0,1,1" gives "no"
          ∷ "undo,1" gives "ok"
          ∷ "back,1" gives "left,0"
          ∷ [];
      script = [];
      queue = [];
    }
    -- Full script: one edit removes a cue and adds it again, `yes`, `yes`.
    ∷ record {
      start = cues_from 256 0;
      steps =
          "begin,1" gives "ok"
          ∷ "remove,1,0,1,1" gives "yes"
          ∷ "add,1,0,1,1" gives "yes"
          ∷ "commit,1" gives "ok"
          ∷ [];
      script = cues_from 256 0;
      queue = [];
    }
    -- Full script: edit 1 removes a cue, edit 2 adds a new one and meets 11; after `commit,1` the add is `yes`.
    ∷ record {
      start = cues_from 256 0;
      steps =
          "begin,1" gives "ok"
          ∷ "begin,2" gives "ok"
          ∷ "remove,1,0,1,1" gives "yes"
          ∷ "add,2,256,1,1" gives "refused,11"
          ∷ "commit,1" gives "ok"
          ∷ "add,2,256,1,1" gives "yes"
          ∷ "commit,2" gives "ok"
          ∷ [];
      script = cues_from 256 1;
      queue = [];
    }
    -- Push a cue twice, take, undo, three backs: `left,2`, `left,1`, `left,0`; queue empty.
    ∷ record {
      start = [];
      steps =
          "begin,1" gives "ok"
          ∷ "push,1,0,1,1" gives "ok"
          ∷ "push,1,0,1,1" gives "ok"
          ∷ "take,1" gives "cue,0,1,1"
          ∷ "undo,1" gives "ok"
          ∷ "back,1" gives "left,2"
          ∷ "back,1" gives "left,1"
          ∷ "back,1" gives "left,0"
          ∷ [];
      script = [];
      queue = [];
    }
    -- `take,1` on an empty queue is `empty`; then `push,2,0,1,1` is `refused,8,1`.
    ∷ record {
      start = [];
      steps =
          "begin,1" gives "ok"
          ∷ "begin,2" gives "ok"
          ∷ "take,1" gives "empty"
          ∷ "push,2,0,1,1" gives "refused,8,1"
          ∷ [];
      script = [];
      queue = [];
    }
    -- Edits 1 and 2 push; `take,1` is `refused,8,2`.
    ∷ record {
      start = [];
      steps =
          "begin,1" gives "ok"
          ∷ "begin,2" gives "ok"
          ∷ "push,1,0,1,1" gives "ok"
          ∷ "push,2,0,1,1" gives "ok"
          ∷ "take,1" gives "refused,8,2"
          ∷ [];
      script = [];
      queue = [];
    }
    -- With 24 cue locks a `has` on a locked cue is accepted; on a 25th cue it meets 9.
    ∷ record {
      start = [];
      steps =
          "begin,1" gives "ok"
          ∷ each 24 "has,1," 0 "no"
          ++ ("has,1,23,1,1" gives "no" ∷ "has,1,24,1,1" gives "refused,9" ∷ []);
      script = [];
      queue = [];
    }
    -- With 16 entries an add of a present, locked cue is still `no`; one of an absent, locked cue meets 10.
    ∷ record {
      start = [];
      steps =
          "begin,1" gives "ok"
          ∷ "has,1,16,1,1" gives "no"
          ∷ each 16 "add,1," 0 "yes"
          ++ ("add,1,15,1,1" gives "no"
          ∷ "add,1,16,1,1" gives "refused,10"
          ∷ "undo,1" gives "ok"
          ∷ "back,1" gives "left,15"
          ∷ []);
      script = [];
      queue = [];
    }
    -- Begin, undo, back: `left,0`; another back meets 4.
    ∷ record {
      start = [];
      steps =
          "begin,1" gives "ok" ∷ "undo,1" gives "ok" ∷ "back,1" gives "left,0" ∷ "back,1" gives "refused,4" ∷ [];
      script = [];
      queue = [];
    }
    ∷ []

-- the whole run
abbrev pub worked_run : List Worked
worked_run =
    record {
      start = bytes "1500,4,12\n1500,2,7\n";
      steps =
          "begin,1" gives "ok"
          ∷ "begin,2" gives "ok"
          ∷ "add,1,1500,2,9" gives "yes"
          ∷ "add,2,1500,2,9" gives "refused,8,1"
          ∷ "push,2,900,1,1" gives "ok"
          ∷ "push,1,900,1,1" gives "ok"
          ∷ "remove,2,1500,4,12" gives "yes"
          ∷ "commit,1" gives "ok"
          ∷ "min,2" gives "cue,900,1,1"
          ∷ "undo,2" gives "ok"
          ∷ "back,2" gives "left,1"
          ∷ [];
      script = bytes "1500,2,7\n1500,2,9\n1500,4,12\n";
      queue = bytes "900,1,1\n";
    }
    ∷ []

-- unmarked lines, the small examples of the rows, and the traps
abbrev pub unmarked : List Worked
unmarked =
    -- `add,9,0,1,0` meets 2. A bad cue on a closed edit meets 4. Rows 1 to 7, each by its small example.
    record {
      start = [];
      steps =
          "add,9,0,1,0" gives "refused,2"
          ∷ "add,1,0,1,0" gives "refused,4"
          ∷ "add,1,05,1,1" gives "refused,1"
          ∷ "begin,9" gives "refused,2"
          ∷ "begin,1" gives "ok"
          ∷ "begin,1" gives "refused,3"
          ∷ "commit,2" gives "refused,4"
          ∷ "begin,2" gives "ok"
          ∷ "undo,2" gives "ok"
          ∷ "commit,2" gives "refused,5"
          ∷ "back,1" gives "refused,6"
          ∷ "add,1,0,1,33" gives "refused,7"
          ∷ [];
      script = [];
      queue = [];
    }
    -- Conflict and full log together meet 8.
    ∷ record {
      start = [];
      steps =
          "begin,1" gives "ok"
          ∷ "begin,2" gives "ok"
          ∷ "has,2,16,1,1" gives "no"
          ∷ each 16 "add,1," 0 "yes"
          ++ ("add,1,16,1,1" gives "refused,8,2" ∷ "commit,1" gives "ok" ∷ []);
      script = cues_from 16 0;
      queue = [];
    }
    -- 10: 17 pushes
    ∷ record {
      start = [];
      steps = "begin,1" gives "ok" ∷ each 16 "push,1," 0 "ok" ++ each 1 "push,1," 16 "refused,10";
      script = [];
      queue = [];
    }
    -- 12: four edits commit 16 pushes each, a fifth pushes; what it takes keeps its place until it closes
    ∷ record {
      start = [];
      steps =
          ("begin,1" gives "ok" ∷ each 16 "push,1," 0 "ok")
          ++ ("commit,1" gives "ok" ∷ "begin,2" gives "ok" ∷ each 16 "push,2," 16 "ok")
          ++ ("commit,2" gives "ok" ∷ "begin,3" gives "ok" ∷ each 16 "push,3," 32 "ok")
          ++ ("commit,3" gives "ok" ∷ "begin,4" gives "ok" ∷ each 16 "push,4," 48 "ok")
          ++ ("commit,4" gives "ok"
          ∷ "begin,5" gives "ok"
          ∷ "push,5,64,1,1" gives "refused,12"
          ∷ "take,5" gives "cue,0,1,1"
          ∷ "push,5,64,1,1" gives "refused,12"
          ∷ "commit,5" gives "ok"
          ∷ "begin,5" gives "ok"
          ∷ "push,5,64,1,1" gives "ok"
          ∷ "commit,5" gives "ok"
          ∷ []);
      script = [];
      queue = cues_from 64 1;
    }
    -- Locks are held until the last `back`. Undo newest first: add, then remove of one cue ends without the cue.
    ∷ record {
      start = [];
      steps =
          "begin,1" gives "ok"
          ∷ "begin,2" gives "ok"
          ∷ "add,1,0,1,1" gives "yes"
          ∷ "remove,1,0,1,1" gives "yes"
          ∷ "undo,1" gives "ok"
          ∷ "has,2,0,1,1" gives "refused,8,1"
          ∷ "back,1" gives "left,1"
          ∷ "has,2,0,1,1" gives "refused,8,1"
          ∷ "back,1" gives "left,0"
          ∷ "has,2,0,1,1" gives "no"
          ∷ [];
      script = [];
      queue = [];
    }
    -- In the queue push goes with push, look goes with look, and every other pair of modes conflicts.
    ∷ record {
      start = [];
      steps =
          "begin,1" gives "ok"
          ∷ "begin,2" gives "ok"
          ∷ "push,1,0,1,1" gives "ok"
          ∷ "push,2,0,1,1" gives "ok"
          ∷ "min,1" gives "refused,8,2"
          ∷ "take,1" gives "refused,8,2"
          ∷ "commit,2" gives "ok"
          ∷ "commit,1" gives "ok"
          ∷ "begin,1" gives "ok"
          ∷ "begin,2" gives "ok"
          ∷ "min,1" gives "cue,0,1,1"
          ∷ "min,2" gives "cue,0,1,1"
          ∷ "push,1,0,1,1" gives "refused,8,2"
          ∷ "take,1" gives "refused,8,2"
          ∷ "commit,2" gives "ok"
          ∷ "commit,1" gives "ok"
          ∷ "begin,1" gives "ok"
          ∷ "begin,2" gives "ok"
          ∷ "take,1" gives "cue,0,1,1"
          ∷ "push,2,0,1,1" gives "refused,8,1"
          ∷ "min,2" gives "refused,8,1"
          ∷ "take,2" gives "refused,8,1"
          ∷ [];
      script = [];
      queue = bytes "0,1,1\n0,1,1\n";
    }
    ∷ []

-- what the model makes of a start script and steps, or what the rules say that it makes
pub record Result : Type 0 where
  pub accepted : Bool
  pub answers : List (List ℕ)
  pub script : List ℕ
  pub queue : List ℕ

abbrev pub result_of : Worked → Result
result_of w =
    let d = opened (script_or_empty (script_of w.start)) in
    let lines = map (λ x. x.step) w.steps in
    let left = (recover (run d lines).store rising).state in
    record {
      accepted = is_ok (script_of w.start);
      answers = map answer_text (answers d lines);
      script = text_of left.script;
      queue = text_of left.queue;
    }

abbrev pub expected_of : Worked → Result
expected_of w = record {
  accepted = true;
  answers = map (λ x. x.answer) w.steps;
  script = w.script;
  queue = w.queue;
}

-- each comes out as the rules say
abbrev pub AsWorked : List Worked → Type 0
AsWorked ws = map result_of ws ≡ map expected_of ws

abbrev pub WorkedLines : Type 0
WorkedLines = AsWorked marked

abbrev pub WorkedRun : Type 0
WorkedRun = AsWorked worked_run

abbrev pub WorkedUnmarked : Type 0
WorkedUnmarked = AsWorked unmarked
