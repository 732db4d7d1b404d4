-- The replay of term 3: a plain desk, fed the accepted calls of the committed transactions, in commit order. What it is
-- fed is computed from the step lines and from which of them were refused, and from nothing else: `Seen` holds no more.
-- Assumes nothing.
use Rattle.std.specs.Prelude.{
  ℕ,
  Option,
  Some,
  None,
  Bool,
  true,
  false,
  if◌then◌else◌,
  List,
  [],
  ◌∷◌,
  ◌++◌,
  map,
  reverse,
  nat_eq,
}
use Rattle.steps.specs.Step.{step_of}
use Rattle.answers.specs.declared.Answer.{Answer}
use Rattle.answers.specs.declared.Answer.TheVariants.{Ok, Yes, No, Empty, Cue, Left, Refused}
use Rattle.boosting.specs.Object.{Call, State, effect, reply, answer_of}
use Rattle.boosting.specs.Rows.{Action, begin, commit, abort, roll_back, call, Request, request_of}
use Rattle.boosting.specs.Run.{Event}

-- the plain desk refuses nothing: its state after calls, and its answers to them
unfoldable pub replay : State → List Call → State
replay s [] = s
replay s (c ∷ cs) = replay (effect c s) cs

unfoldable pub replies : State → List Call → List Answer
replies s [] = []
replies s (c ∷ cs) = answer_of (reply c s) ∷ replies (effect c s) cs

-- a step line, and whether it was refused
pub record Seen : Type 0 where
  pub line : List ℕ
  pub refused : Bool

abbrev pub is_refused : Answer → Bool
is_refused Ok = false
is_refused Yes = false
is_refused No = false
is_refused Empty = false
is_refused (Cue c) = false
is_refused (Left n) = false
is_refused (Refused r) = true

abbrev pub seen : Event → Seen
seen h = record { line = h.line; refused = is_refused h.answer }

-- the calls of e since its begin, with one accepted action of f more; newest first
abbrev pub since_action : {A : Type 0} → ℕ → ℕ → Action → (Call → A) → List A → List A
since_action e f begin x xs = if nat_eq f e then [] else xs
since_action e f commit x xs = xs
since_action e f abort x xs = xs
since_action e f roll_back x xs = xs
since_action e f (call None) x xs = xs
since_action e f (call (Some c)) x xs = if nat_eq f e then x c ∷ xs else xs

-- with one accepted request more
abbrev pub since : {A : Type 0} → ℕ → Option Request → (Call → A) → List A → List A
since e None x xs = xs
since e (Some q) x xs = since_action e q.transaction q.action x xs

-- the accepted calls of e since its begin, newest first
unfoldable pub calls_of : ℕ → List Seen → List Call
calls_of e [] = []
calls_of e (h ∷ hs) =
    if h.refused then calls_of e hs else since e (request_of (step_of h.line)) (λ c. c) (calls_of e hs)

-- what an accepted action of f adds to the feed: a commit the calls of f
abbrev pub committed_action : {A : Type 0} → ℕ → Action → (ℕ → List A) → List A → List A
committed_action f begin calls xs = xs
committed_action f commit calls xs = calls f ++ xs
committed_action f abort calls xs = xs
committed_action f roll_back calls xs = xs
committed_action f (call c) calls xs = xs

-- what an accepted request adds to it
abbrev pub committed : {A : Type 0} → Option Request → (ℕ → List A) → List A → List A
committed None calls xs = xs
committed (Some q) calls xs = committed_action q.transaction q.action calls xs

-- the calls of the committed transactions, in commit order, newest first
unfoldable pub feed : List Seen → List Call
feed [] = []
feed (h ∷ hs) = if h.refused then feed hs else committed (request_of (step_of h.line)) (λ e. calls_of e hs) (feed hs)

-- what the replay is fed, in order
unfoldable pub fed : List Event → List Call
fed past = reverse (feed (map seen past))

-- the answers that the desk gave to the same calls: collected in the same way, with the answer for the call
unfoldable pub answers_of : ℕ → List Event → List Answer
answers_of e [] = []
answers_of e (h ∷ hs) =
    if is_refused h.answer then answers_of e hs
    else since e (request_of (step_of h.line)) (λ c. h.answer) (answers_of e hs)

unfoldable pub heard_back : List Event → List Answer
heard_back [] = []
heard_back (h ∷ hs) =
    if is_refused h.answer then heard_back hs
    else committed (request_of (step_of h.line)) (λ e. answers_of e hs) (heard_back hs)

unfoldable pub heard : List Event → List Answer
heard past = reverse (heard_back past)
