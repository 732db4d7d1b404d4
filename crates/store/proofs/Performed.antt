-- What an accepted step does where the store stands: a state s, and the transaction t of the eight put at place i. The
-- answers find these laws by `search`, and their premises among what the calls ensure. Assumes nothing.
use Rattle.std.proofs.Common.{
  ◌≡◌,
  ℕ,
  suc,
  ◌+◌,
  ◌<◌,
  true,
  false,
  List,
  [],
  ◌∷◌,
  length,
  get_or,
  set,
  refl,
  sym,
  ap,
  subst,
  ◌∙◌,
  arith,
  add-one,
}
use lib.Seq.{get_or-set_same}
use Rattle.std.specs.Prelude.{Option, None, Some}
use Rattle.answers.specs.declared.Answer.{Answer}
use Rattle.answers.specs.declared.Answer.TheVariants.{Left}
use Rattle.boosting.specs.Object.{Call, Reply, State, effect, reply, answer_of}
use Rattle.boosting.specs.Undo.{Entry, entry_of, inverse, noted}
use Rattle.boosting.specs.Locks.{Lock, lock_of, hold}
use Rattle.boosting.specs.Room.{locks_full, log_full}
use Rattle.boosting.specs.Store.{
  Standing,
  «open»,
  Transaction,
  closed_transaction,
  open_transaction,
  Store,
  valid,
  transaction,
  put,
}
use Rattle.boosting.specs.Rows.{Action, begin, commit, abort, roll_back, call, request, refusal_of}
use Rattle.boosting.specs.Step.{Out, accept, unwound, undo_newest, aborted, perform}
use Rattle.boosting.specs.Sound.{Sound, CallKey}
use Rattle.boosting.proofs.Accepted.{Accepts, accepted_valid, accepted_standing, accepted_call}
use Rattle.boosting.proofs.Keeping.{begin_sound, close_sound, abort_sound, undo_sound, call_sound, unwound-log}
use Rattle.boosting.proofs.Sound.{sound_has_room}
use Rattle.boosting.proofs.StoreLaws.{range_valid}
use Rattle.shared_object.specs.Room.{HasRoom}
use Rattle.undo_logs.specs.Log.{newest, older}
use Rattle.transactions.specs.Steps.{accepted, unwound_once}
use Rattle.admission.specs.Answers.{store_of}
use Rattle.admission.proofs.Rows.{place}

-- what is true of the store by its fields is true of its value, and by a transaction's place, of its number
pub by_value : {A : Type 0} (f : Store → ℕ → A) (d d' : Store) (i e : ℕ) → d ≡ d' → i + 1 ≡ e → f d (suc i) ≡ f d' e
by_value f d d' i e q p = λ j. f (q j) ((sym (add-one i) ∙ p) j)

pub place_valid : (i : ℕ) → i < 8 → valid (suc i) ≡ true
place_valid i h = range_valid (suc i) (omega arith) (omega arith)

-- a state and a queue that have room
room : (d : Store) → Sound d → HasRoom d.state
room d v = let h = sound_has_room d v in record { script = h.0.at_most; queue = h.1 }

module _ (s : State) (ts : List Transaction) (i : ℕ) (h : i < 8) (v : Sound (store_of s ts)) (x : Transaction) where
  placed : (e : ℕ) → i + 1 ≡ e → transaction (store_of s ts) e ≡ get_or ts i x
  placed e p = place s ts e i x p (let n = v.eight in omega arith)

  there : transaction (store_of s ts) (suc i) ≡ get_or ts i x
  there = placed (suc i) (add-one i)

  module _ (d : Store) (e : ℕ) (is : store_of s ts ≡ d) (p : i + 1 ≡ e) where
    found : get_or ts i x ≡ transaction d e
    found = sym (placed e p) ∙ ap (λ (d : Store). transaction d e) is

    pub stands : (y : Standing) → (transaction d e).standing ≡ y → (get_or ts i x).standing ≡ y
    stands y q = ap (λ (t : Transaction). t.standing) found ∙ q

    pub standing_is : (z : Standing) → z ≡ (get_or ts i x).standing → z ≡ (transaction d e).standing
    standing_is z r = r ∙ stands _ refl

    pub number_is : valid e ≡ true
    number_is = range_valid e (omega arith) (omega arith)

    pub log_is : (log : List Entry) → log ≡ (get_or ts i x).log → log ≡ (transaction d e).log
    log_is log r = r ∙ ap (λ (t : Transaction). t.log) found

-- a transaction that begins, closes, aborts
module _ (s : State) (ts : List Transaction) (i : ℕ) (t : Transaction) where
  pub begun-Sound : i < 8 → Sound (store_of s ts) → t ≡ open_transaction → Sound (store_of s (set ts i t))
  unfolding put
  begun-Sound h v q = rw q (begin_sound (store_of s ts) (suc i) v (place_valid i h))

  pub closed-Sound : i < 8 → Sound (store_of s ts) → t ≡ closed_transaction → Sound (store_of s (set ts i t))
  unfolding put
  closed-Sound h v q = rw q (close_sound (store_of s ts) (suc i) v (place_valid i h))

  pub aborts-Sound : (x : Transaction) → i < 8 → Sound (store_of s ts) → t ≡ aborted (get_or ts i x)
      → Sound (store_of s (set ts i t))
  unfolding put
  aborts-Sound x h v q =
      subst (λ (t : Transaction). Sound (store_of s (set ts i t))) (ap aborted (there s ts i h v x) ∙ sym q)
      (abort_sound (store_of s ts) (suc i) v (place_valid i h))

  module _ (d : Store) (e : ℕ) (is : store_of s ts ≡ d) (p : i + 1 ≡ e) where
    did : (a : Action) → store_of s (set ts i t) ≡ (perform (store_of s ts) (suc i) a).store
        → store_of s (set ts i t) ≡ (perform d e a).store
    did a q = q ∙ by_value (λ d e. (perform d e a).store) _ _ _ _ is p

    pub begun : t ≡ open_transaction → store_of s (set ts i t) ≡ (perform d e begin).store
    unfolding perform put
    begun q = did begin (rw q refl)

    pub committed : t ≡ closed_transaction → store_of s (set ts i t) ≡ (perform d e commit).store
    unfolding perform put
    committed q = did commit (rw q refl)

    pub aborts : (x : Transaction) → i < 8 → Sound (store_of s ts) → t ≡ aborted (get_or ts i x)
        → store_of s (set ts i t) ≡ (perform d e abort).store
    unfolding perform put
    aborts x h v q = did abort (rw (q, there s ts i h v x) refl)

-- a rollback step: its newest entry r is undone, and t is what is left of the transaction
module _ (s : State) (ts : List Transaction) (i : ℕ) (t x : Transaction) (h : i < 8) (v : Sound (store_of s ts))
    (r : Option Entry) (q : r ≡ newest (get_or ts i x).log) (u : t ≡ unwound_once (get_or ts i x)) where
  abbrev D : Store
  D = store_of s ts

  abbrev T : Transaction
  T = transaction D (suc i)

  newest_is : r ≡ newest T.log
  newest_is = q ∙ ap (λ (t : Transaction). newest t.log) (sym (there s ts i h v x))

  left_is : t ≡ unwound (older T.log) T.locks
  left_is = u ∙ ap unwound_once (sym (there s ts i h v x))

  -- with m entries left
  abbrev Rolled : State → ℕ → Out → Type 0
  Rolled s' m o = (store_of s' (set ts i t) ≡ o.store) × (Left m ≡ o.answer)

  -- what is left, by the log
  none_left : (log : List Entry) → r ≡ newest log → t ≡ unwound (older log) T.locks → r ≡ None
      → Rolled s 0 (undo_newest D (suc i) log)
  unfolding put
  none_left [] m w z = (ap (λ (x : Transaction). store_of s (set ts i x)) w, refl)
  none_left (n ∷ log) m w z = absurd (let z : ◌≡◌ {A = ℕ} 0 1 = cc in omega arith)

  some_left : (log : List Entry) (n : Entry) (s' : State) → r ≡ newest log → t ≡ unwound (older log) T.locks
      → r ≡ Some n → s' ≡ inverse n s → Rolled s' (length t.log) (undo_newest D (suc i) log)
  unfolding put
  some_left [] n s' m w z k = absurd (let z : ◌≡◌ {A = ℕ} 0 1 = cc in omega arith)
  some_left (o ∷ log) n s' m w z k =
      let y : n ≡ o = cc in (
        λ j. store_of ((k ∙ ap (λ (e : Entry). inverse e s) y) j) (set ts i (w j)),
        ap (λ (t : Transaction). Left (length t.log)) w
            ∙ ap (λ (l : List Entry). Left (length l)) (unwound-log log T.locks),
      )

  rolled-Sound : (s' : State) → store_of s' (set ts i t) ≡ (perform D (suc i) roll_back).store
      → Sound (store_of s' (set ts i t))
  unfolding perform
  rolled-Sound s' w = subst Sound (sym w) (undo_sound D (suc i) T.log v (place_valid i h) refl)

  module _ (none : r ≡ None) where
    rolled_none : Rolled s 0 (perform D (suc i) roll_back)
    unfolding perform
    rolled_none = none_left T.log newest_is left_is none

    pub none-Sound : Sound (store_of s (set ts i t))
    none-Sound = rolled-Sound s rolled_none.0

    module _ (d : Store) (e : ℕ) (is : D ≡ d) (p : i + 1 ≡ e) where
      pub none-store : store_of s (set ts i t) ≡ (perform d e roll_back).store
      none-store = rolled_none.0 ∙ by_value (λ d e. (perform d e roll_back).store) _ _ _ _ is p

      pub none-answer : Left 0 ≡ (perform d e roll_back).answer
      none-answer = rolled_none.1 ∙ by_value (λ d e. (perform d e roll_back).answer) _ _ _ _ is p

  module _ (n : Entry) (some : r ≡ Some n) where
    rolled_some : (s' : State) → s' ≡ inverse n s → Rolled s' (length t.log) (perform D (suc i) roll_back)
    unfolding perform
    rolled_some s' k = some_left T.log n s' newest_is left_is some k

    pub some-room : HasRoom (inverse n s)
    some-room = room (store_of (inverse n s) (set ts i t)) (rolled-Sound _ (rolled_some _ refl).0)

    module _ (s' : State) (k : s' ≡ inverse n s) where
      pub some-Sound : Sound (store_of s' (set ts i t))
      some-Sound = rolled-Sound s' (rolled_some s' k).0

      module _ (d : Store) (e : ℕ) (is : D ≡ d) (p : i + 1 ≡ e) where
        pub some-store : store_of s' (set ts i t) ≡ (perform d e roll_back).store
        some-store = (rolled_some s' k).0 ∙ by_value (λ d e. (perform d e roll_back).store) _ _ _ _ is p

        -- the entries left are counted at the same place j
        pub some-answer : (j : ℕ) (y : Transaction) (log : List Entry) (m : ℕ) → j + 1 ≡ e
            → log ≡ (get_or (set ts i t) j y).log → m ≡ length log → Left m ≡ (perform d e roll_back).answer
        some-answer j y log m o g f =
            let w : j ≡ i = omega arith in
            let l : i < length ts = let n = v.eight in omega arith in
            let same : get_or (set ts i t) j y ≡ t = rw w (get_or-set_same ts i t y l) in
            ap Left (f ∙ ap length (g ∙ ap (λ (t : Transaction). t.log) same))
            ∙ (rolled_some s' k).1 ∙ by_value (λ d e. (perform d e roll_back).answer) _ _ _ _ is p

-- an accepted call
module _ (s : State) (ts : List Transaction) (v : Sound (store_of s ts)) (d : Store) (is : store_of s ts ≡ d) (e : ℕ)
    (c : Call) (a : refusal_of d (request e (call (Some c))) ≡ None) (k : CallKey c) where
  accepts : Accepts (store_of s ts) e (call (Some c))
  accepts = ap (λ (d : Store). refusal_of d (request e (call (Some c)))) is ∙ a

  call-Sound : Sound (perform (store_of s ts) e (call (Some c))).store
  unfolding perform
  call-Sound =
      call_sound (store_of s ts) e c v (accepted_valid _ e (call (Some c)) accepts) k (accepted_call _ e c accepts)

  pub call-room : HasRoom (effect c s)
  unfolding perform accept put
  call-room = room (perform (store_of s ts) e (call (Some c))).store call-Sound

  module _ (i : ℕ) (h : i < 8) (p : i + 1 ≡ e) (x : Transaction) (r : Reply) (l : Lock) (n : Option Entry)
      (known : r ≡ reply c d.state) (le : l ≡ lock_of c) (ne : n ≡ entry_of c r) where
    at_place : transaction (store_of s ts) e ≡ get_or ts i x
    at_place = placed s ts i h v x e p

    entry_is : n ≡ entry_of c (reply c s)
    entry_is = ne ∙ ap (entry_of c) (known ∙ ap (λ (d : Store). reply c d.state) (sym is))

    pub lock-room : locks_full l (get_or ts i x).locks ≡ false
    lock-room = rw (← at_place, le) (accepted_call _ e c accepts).locks

    pub log-room : log_full n (get_or ts i x).log ≡ false
    log-room = rw (← at_place, entry_is) (accepted_call _ e c accepts).log

    module _ (s' : State) (t : Transaction) (q : s' ≡ effect c s) (u : t ≡ accepted l n (get_or ts i x)) where
      called : store_of s' (set ts i t) ≡ (perform (store_of s ts) e (call (Some c))).store
      unfolding perform accept put
      called =
          let y : transaction (store_of s ts) (suc i) ≡ get_or ts i x = there s ts i h v x in
          let o : (get_or ts i x).standing ≡ «open» =
          ap (λ (t : Transaction). t.standing) (sym at_place) ∙ accepted_standing _ e (call (Some c)) accepts in
          let w : accepted l n (get_or ts i x) ≡ record {
            standing = «open»;
            locks = hold (lock_of c) (transaction (store_of s ts) (suc i)).locks;
            log = noted (entry_of c (reply c s)) (transaction (store_of s ts) (suc i)).log;
          } = λ j. record {
            standing = o j;
            locks = hold (le j) (sym y j).locks;
            log = noted (entry_is j) (sym y j).log;
          } in
          (λ j. store_of (q j) (set ts i ((u ∙ w) j)))
          ∙ by_value (λ d e. (perform d e (call (Some c))).store) (store_of s ts) _ i e refl p

      pub called-Sound : Sound (store_of s' (set ts i t))
      called-Sound = subst Sound (sym called) call-Sound

      pub called-store : store_of s' (set ts i t) ≡ (perform d e (call (Some c))).store
      called-store = called ∙ ap (λ (d : Store). (perform d e (call (Some c))).store) is

pub call-answer : (d : Store) (e : ℕ) (c : Call) (r : Reply) (a : Answer) → r ≡ reply c d.state → a ≡ answer_of r
    → a ≡ (perform d e (call (Some c))).answer
unfolding perform accept
call-answer d e c r a q p = p ∙ ap answer_of q

pub ruleset standing_rules = (standing_is, number_is)

pub ruleset rolled_rules = (stands, none-store)
