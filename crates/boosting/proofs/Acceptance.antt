-- The acceptance tests, computed. Modules are checked in the order of their names, after those that they use: this one
-- comes first and uses no other, so that a wrong definition is refused here before it meets a lemma. Assumes nothing.
use Prim.Native.Nat.{ℕ, zero, suc, ◌≤◌}
use mathlib.Core.Path.{◌≡◌, refl, ap, ◌∙◌}
use mathlib.Core.Bool.{true}
use mathlib.Core.List.{List, [], ◌∷◌}
use borrow.Author.Tests.{leb-true}
use lib.Dec.{leb}
use lib.ListN.{length, get_or, replicate}
use Rattle.lines.specs.Lines.{up_to, onto, lines_of}
use Rattle.digits.specs.Digits.{digits_at}
use Rattle.numbers.specs.Number.{value_from, number_of}
use Rattle.cue_lines.specs.CueLine.{fields_of}
use Rattle.tables.specs.Table.{member_of, insert_of, delete_of, put_once_of}
use Rattle.step_words.specs.Word.{word_of}
use Rattle.answers.specs.declared.Answer.{Answer}
use Rattle.answers.specs.declared.Answer.TheVariants.{Ok}
use Rattle.std.specs.Result.{IsOk}
use Rattle.scripts.specs.Script.{read_from, script_of, script_or_empty}
use Rattle.boosting.specs.Object.{State, effect, reply}
use Rattle.boosting.specs.Undo.{entry_of, inverse}
use Rattle.boosting.specs.Locks.{lock_of, no_locks, hold, conflicts}
use Rattle.boosting.specs.Store.{closed, Transaction, closed_transaction, open_transaction, Store, started, opened}
use Rattle.boosting.specs.Store.{transaction, put, blocker}
use Rattle.boosting.specs.Room.{reserved_by, reserved_in, reserved, takes_by, takes_in, queue_slots}
use Rattle.boosting.specs.Rows.{first_met, refusal_of}
use Rattle.boosting.specs.Step.{accept, perform, step_on, step_line}
use Rattle.boosting.specs.Run.{advance, run_from}
use Rattle.boosting.specs.Recovery.{roll_backs, recover_one, recover, rising}
use Rattle.boosting.specs.Replay.{replay, replies, calls_of, feed, fed, answers_of, heard_back, heard}
use Rattle.boosting.specs.Listing.{lock_lines, listing_from, listing}
use Rattle.boosting.specs.Sound.{Sound}
use Rattle.boosting.specs.Theorems.{Term3Rising, OpenedIsSound, RunKeepsSound, EachOnce, ListingOnce}
use Rattle.boosting.specs.Acceptance.{Case, stepped, Term3At, no_and_empty, LockForNoAndEmpty, half_undone}
use Rattle.boosting.specs.Acceptance.{LocksUntilTheLastBack, full_script, SlotUntilItsEditCloses, add_then_remove}
use Rattle.boosting.specs.Acceptance.{UndoNewestFirst, full_queue, NoRefusedCallInTheReplay, added_then_removed}
use Rattle.boosting.specs.Acceptance.{CommitsInOrder, begun_again, BeginIsANewEdit, has_on25_cues, CueLocks24, pushes17}
use Rattle.boosting.specs.Acceptance.{UndoEntries16, QueueSlots64, AnswersAlone, ModeListedOnce}

-- ---- a test that fails refutes its theorem

by_term_3 : Term3Rising → (c : Case) → IsOk (script_of c.start) → Term3At c
by_term_3 theorem c accepted = (accepted, theorem c.start accepted c.steps)

by_keeping : OpenedIsSound → RunKeepsSound → (c : Case) → Sound (stepped c).store
by_keeping begins keeps c = keeps (opened (script_or_empty (script_of c.start))) c.steps (begins c.start)

by_listing : OpenedIsSound → RunKeepsSound → ListingOnce → (c : Case) → EachOnce (listing (stepped c).store)
by_listing begins keeps theorem c = theorem (stepped c).store (by_keeping begins keeps c)

-- ---- values
-- Two terms that compute for long are dear to compare, their values are not. `AtNumber n P` is P of the value of n, and
-- so on; a value is counted up from zero, so that a refusal prints it, and the cases keep to small keys.

abbrev AtNumber : ℕ → (ℕ → Type 0) → Type 0
AtNumber zero P = P zero
AtNumber (suc n) P = AtNumber n (λ v. P (suc v))

number_at : (n : ℕ) (P : ℕ → Type 0) → AtNumber n P → P n
number_at zero P h = h
number_at (suc n) P h = number_at n (λ v. P (suc v)) h

abbrev AtKeys : List ℕ → (List ℕ → Type 0) → Type 0
AtKeys [] P = P []
AtKeys (k ∷ x) P = AtNumber k (λ j. AtKeys x (λ v. P (j ∷ v)))

keys_at : (x : List ℕ) (P : List ℕ → Type 0) → AtKeys x P → P x
keys_at [] P h = h
keys_at (k ∷ x) P h = keys_at x (λ v. P (k ∷ v)) (number_at k (λ j. AtKeys x (λ v. P (j ∷ v))) h)

abbrev AtState : State → (State → Type 0) → Type 0
AtState s P = AtKeys s.script (λ x. AtKeys s.queue (λ q. P (record { script = x; queue = q })))

state_at : (s : State) (P : State → Type 0) → AtState s P → P s
state_at s P h =
    keys_at s.queue (λ q. P (record { script = s.script; queue = q }))
    (keys_at s.script (λ x. AtKeys s.queue (λ q. P (record { script = x; queue = q }))) h)

abbrev AtAnswer : Answer → (Answer → Type 0) → Type 0
AtAnswer Ok P = P Ok
AtAnswer a P = P a

answer_at_lem : (a : Answer) (P : Answer → Type 0) → AtAnswer a P → P a
answer_at_lem Ok P h = h
answer_at_lem a P h = h

abbrev AtAnswers : List Answer → (List Answer → Type 0) → Type 0
AtAnswers [] P = P []
AtAnswers (a ∷ l) P = AtAnswer a (λ b. AtAnswers l (λ v. P (b ∷ v)))

answers_at : (l : List Answer) (P : List Answer → Type 0) → AtAnswers l P → P l
answers_at [] P h = h
answers_at (a ∷ l) P h = answers_at l (λ v. P (a ∷ v)) (answer_at_lem a (λ b. AtAnswers l (λ v. P (b ∷ v))) h)

-- ---- facts from values

-- v ≡ w, said so that a refusal shows both
abbrev Equal : {A : Type 0} → A → A → Type 0
Equal {A} v w = ◌≡◌ {A = A × A} (v, w) (w, v)

abbrev EqualStates : State → State → Type 0
EqualStates s t = AtState s (λ v. AtState t (λ w. Equal v w))

equal_states : (s t : State) → EqualStates s t → s ≡ t
equal_states s t h =
    ap (λ (p : State × State). p.0) (state_at t (λ w. Equal s w) (state_at s (λ v. AtState t (λ w. Equal v w)) h))

abbrev EqualAnswers : List Answer → List Answer → Type 0
EqualAnswers l m = AtAnswers l (λ v. AtAnswers m (λ w. Equal v w))

equal_answers : (l m : List Answer) → EqualAnswers l m → l ≡ m
equal_answers l m h =
    ap (λ (p : List Answer × List Answer). p.0)
    (answers_at m (λ w. Equal l w) (answers_at l (λ v. AtAnswers m (λ w. Equal v w)) h))

at_most : (n m : ℕ) → AtNumber n (λ v. leb v m ≡ true) → n ≤ m
at_most n m h = leb-true n m (number_at n (λ v. leb v m ≡ true) h)

closed_at : (n i : ℕ) → (get_or (replicate n closed_transaction) i closed_transaction).standing ≡ closed
unfolding closed_transaction
closed_at zero i = refl
closed_at (suc n) zero = refl
closed_at (suc n) (suc i) = closed_at n i

pub eight_closed : (d : Store) → d.transactions ≡ replicate 8 closed_transaction → (e : ℕ)
    → (transaction d e).standing ≡ closed
unfolding transaction closed_transaction
eight_closed d h zero = refl
eight_closed d h (suc i) = ap (λ (ts : List Transaction). (get_or ts i closed_transaction).standing) h ∙ closed_at 8 i

term_3_at : (c : Case) → IsOk (script_of c.start)
    → EqualAnswers (heard (stepped c).past)
    (replies (started (script_or_empty (script_of c.start))) (fed (stepped c).past))
    → EqualStates (recover (stepped c).store rising).state
    (replay (started (script_or_empty (script_of c.start))) (fed (stepped c).past))
    → (recover (stepped c).store rising).transactions ≡ replicate 8 closed_transaction
    → Term3At c
term_3_at c p a s t = (
  p,
  record { state = equal_states _ _ s; answers = equal_answers _ _ a; all_closed = eight_closed _ t },
)

-- ---- computed

-- all that a run, its recovery and its replay compute with
computing : Unit {0}
unfolding up_to onto lines_of digits_at value_from number_of fields_of member_of insert_of delete_of put_once_of read_from script_of
    word_of effect reply entry_of inverse lock_of no_locks hold conflicts closed_transaction open_transaction started
    opened transaction put blocker reserved_by reserved_in takes_by takes_in first_met refusal_of accept perform step_on
    step_line advance run_from roll_backs recover_one recover rising replay replies calls_of feed fed answers_of heard_back
    heard lock_lines listing_from
computing = tt

-- in front, because later cases have refused calls of committed edits too
pub no_refused_call_in_the_replay : NoRefusedCallInTheReplay
unfolding computing
no_refused_call_in_the_replay = term_3_at full_queue refl refl refl refl

pub lock_for_no_and_empty : LockForNoAndEmpty
unfolding computing
lock_for_no_and_empty = term_3_at no_and_empty refl refl refl refl

pub locks_until_the_last_back : LocksUntilTheLastBack
unfolding computing
locks_until_the_last_back = term_3_at half_undone refl refl refl refl

pub slot_until_its_edit_closes : SlotUntilItsEditCloses
unfolding computing
slot_until_its_edit_closes = at_most (length (reserved (stepped full_script).store)) 256 refl

pub undo_newest_first : UndoNewestFirst
unfolding computing
undo_newest_first = term_3_at add_then_remove refl refl refl refl

pub commits_in_order : CommitsInOrder
unfolding computing
commits_in_order = term_3_at added_then_removed refl refl refl refl

pub begin_is_a_new_edit : BeginIsANewEdit
unfolding computing
begin_is_a_new_edit = term_3_at begun_again refl refl refl refl

pub cue_locks_24 : CueLocks24
unfolding computing
cue_locks_24 = at_most (length (transaction (stepped has_on25_cues).store 1).locks.cues) 24 refl

pub undo_entries_16 : UndoEntries16
unfolding computing
undo_entries_16 = at_most (length (transaction (stepped pushes17).store 1).log) 16 refl

pub queue_slots_64 : QueueSlots64
unfolding computing
queue_slots_64 = at_most (queue_slots (stepped full_queue).store) 64 refl

pub answers_alone : AnswersAlone
unfolding computing
answers_alone = refl

pub mode_listed_once : ModeListedOnce
unfolding computing
mode_listed_once = ((λ among. among), tt)
