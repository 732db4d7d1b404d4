-- The rows 2 to 7, by how the request's transaction stands and by the action; and what the rows 8 to 12 say of a call.
-- Assumes nothing.
use Rattle.std.proofs.Common.{◌≡◌, ℕ, true, false, List, refl, sym, ap, subst, ◌∙◌}
use Rattle.std.specs.Prelude.{Option, None, Some, Result, Ok, Err}
use Rattle.tables.proofs.Laws.{split}
use Rattle.refusals.specs.declared.Refusal.{Refusal}
use Rattle.refusals.specs.declared.Refusal.TheVariants.{
  TransactionOutOfRange,
  AlreadyBegun,
  NotBegun,
  NotAborting,
  CueOutOfRange,
}
use Rattle.refusals.specs.declared.Refusal.TheVariants.{Malformed as MalformedLine, Aborting as IsAborting}
use Rattle.steps.specs.declared.reading.Step.{Step}
use Rattle.boosting.specs.Object.{Call, Reply, State, reply, is_ok}
use Rattle.boosting.specs.Store.{closed, «open», aborting, Transaction, Store, valid, transaction}
use Rattle.boosting.specs.Rows.{
  Action,
  begin,
  commit,
  abort,
  roll_back,
  call,
  Request,
  request,
  call_rows,
  request_of,
  first_met,
  refusal_of,
}
use Rattle.boosting.specs.Step.{perform, refuse, step_on}
use Rattle.boosting.specs.Sound.{ActionKey, RequestKey}
use Rattle.boosting.proofs.Accepted.{no_call, asks, accepted_valid, accepted_standing, step_refused, step_accepted, step_case, Accepts-abort, Accepts-roll_back}
use Rattle.boosting.proofs.Sound.{request_key}
use Rattle.transactions.specs.Number.{numbered}
use Rattle.store.specs.Answering.{foretold}
use Rattle.admission.specs.Answers.{admitted, store_of}
use Rattle.admission.proofs.Rows.{admitted-Ok, admitted-Err}

-- ---- what is asked: a line that is no step is refused, and a call that a step asks for has the key of a cue
pub malformed : (d : Store) (s : Option Step) → s ≡ None → step_on d (request_of s) ≡ refuse d MalformedLine
unfolding step_on
malformed d s p = rw p refl

pub asked_key : (q : Request) (s : Option Step) → Some q ≡ request_of s → ActionKey q.action
asked_key q s p = subst RequestKey (sym p) (request_key s)

-- ---- rows 2 to 7
module _ (d : Store) (q : Request) where
  pub no_number : valid q.transaction ≡ false → Err TransactionOutOfRange ≡ admitted (refusal_of d (Some q)) (foretold q.action d.state)
  unfolding refusal_of first_met
  no_number v = rw v refl

  pub not_numbered : (r : Refusal) → Err r ≡ numbered q.transaction
      → Err r ≡ admitted (refusal_of d (Some q)) (foretold q.action d.state)
  not_numbered r p =
      split (valid q.transaction) (λ v. let z : ◌≡◌ {A = Result ℕ Refusal} (Err r) (Ok q.transaction) = rw v at p in cc)
      (λ v.
      let z : ◌≡◌ {A = Result ℕ Refusal} (Err r) (Err TransactionOutOfRange) = rw v at p in
      let e : r ≡ TransactionOutOfRange = cc in
      rw e (no_number v))

  module _ (v : valid q.transaction ≡ true) where
    module _ (s : closed ≡ (transaction d q.transaction).standing) where
      pub begins : q.action ≡ begin → Ok is_ok ≡ admitted (refusal_of d (Some q)) (foretold q.action d.state)
      unfolding refusal_of first_met
      begins a = rw (a, v, ← s) refl

      pub not_begun : (q.action ≡ begin → ⊥) → Err NotBegun ≡ admitted (refusal_of d (Some q)) (foretold q.action d.state)
      unfolding refusal_of first_met
      not_begun n = go q.action n
        where
          go : (a : Action) → (a ≡ begin → ⊥)
              → Err NotBegun ≡ admitted (refusal_of d (Some (record { transaction = q.transaction; action = a }))) (foretold a d.state)
          go begin n = absurd (n refl)
          go commit n = rw (v, ← s) refl
          go abort n = rw (v, ← s) refl
          go roll_back n = rw (v, ← s) refl
          go (call c) n = rw (v, ← s) refl

    module _ (s : aborting ≡ (transaction d q.transaction).standing) where
      pub aborting_begun : q.action ≡ begin → Err AlreadyBegun ≡ admitted (refusal_of d (Some q)) (foretold q.action d.state)
      unfolding refusal_of first_met
      aborting_begun a = rw (a, v, ← s) refl

      pub rolls_back : q.action ≡ roll_back → Ok is_ok ≡ admitted (refusal_of d (Some q)) (foretold q.action d.state)
      unfolding refusal_of first_met
      rolls_back a = rw (a, v, ← s) refl

      pub goes_back : (q.action ≡ begin → ⊥) → (q.action ≡ roll_back → ⊥) → Err IsAborting ≡ admitted (refusal_of d (Some q)) (foretold q.action d.state)
      unfolding refusal_of first_met
      goes_back m n = go q.action m n
        where
          go : (a : Action) → (a ≡ begin → ⊥) → (a ≡ roll_back → ⊥)
              → Err IsAborting ≡ admitted (refusal_of d (Some (record { transaction = q.transaction; action = a }))) (foretold a d.state)
          go begin m n = absurd (m refl)
          go commit m n = rw (v, ← s) refl
          go abort m n = rw (v, ← s) refl
          go roll_back m n = absurd (n refl)
          go (call c) m n = rw (v, ← s) refl

    module _ (s : «open» ≡ (transaction d q.transaction).standing) where
      pub open_begun : q.action ≡ begin → Err AlreadyBegun ≡ admitted (refusal_of d (Some q)) (foretold q.action d.state)
      unfolding refusal_of first_met
      open_begun a = rw (a, v, ← s) refl

      pub not_aborting : q.action ≡ roll_back → Err NotAborting ≡ admitted (refusal_of d (Some q)) (foretold q.action d.state)
      unfolding refusal_of first_met
      not_aborting a = rw (a, v, ← s) refl

      pub out_of_range : q.action ≡ call None → Err CueOutOfRange ≡ admitted (refusal_of d (Some q)) (foretold q.action d.state)
      unfolding refusal_of first_met
      out_of_range a = rw (a, v, ← s) refl

      pub commits : q.action ≡ commit → Ok is_ok ≡ admitted (refusal_of d (Some q)) (foretold q.action d.state)
      unfolding refusal_of first_met
      commits a = rw (a, v, ← s) refl

      pub aborts : q.action ≡ abort → Ok is_ok ≡ admitted (refusal_of d (Some q)) (foretold q.action d.state)
      unfolding refusal_of first_met
      aborts a = rw (a, v, ← s) refl

-- ---- rows 8 to 12, of a call of an open transaction
numbered_is : (e n : ℕ) → Ok e ≡ numbered n → (e ≡ n) × (valid n ≡ true)
numbered_is e n p =
    split (valid n) (λ v. let z : ◌≡◌ {A = Result ℕ Refusal} (Ok e) (Ok n) = rw v at p in (cc, v))
    (λ v. let z : ◌≡◌ {A = Result ℕ Refusal} (Ok e) (Err TransactionOutOfRange) = rw v at p in cc)

module _ (s : State) (ts : List Transaction) (d : Store) (is : store_of s ts ≡ d) (q : Request) (c : Call)
    (a : q.action ≡ call (Some c)) (e : ℕ) (n : Ok e ≡ numbered q.transaction)
    (o : «open» ≡ (transaction d e).standing) where
  rows_are : refusal_of d (Some q) ≡ first_met (call_rows (store_of s ts) e c)
  unfolding refusal_of first_met
  rows_are =
      let m = numbered_is e q.transaction n in
      rw (a, m.1, ← m.0, ← o) (ap (λ (d : Store). first_met (call_rows d e c)) (sym is))

  pub call_decides : (r : Result Reply Refusal) → r ≡ admitted (first_met (call_rows (store_of s ts) e c)) (reply c s)
      → r ≡ admitted (refusal_of d (Some q)) (foretold q.action d.state)
  call_decides r p = p ∙ rw (rows_are, a) (ap (λ (d : Store). admitted (first_met (call_rows (store_of s ts) e c)) (reply c d.state)) is)

pub ruleset row_rules = (
  no_number,
  begins,
  not_begun,
  aborting_begun,
  rolls_back,
  goes_back,
  open_begun,
  not_aborting,
  out_of_range,
  commits,
  aborts,
  call_decides,
)

-- ---- a request that is turned away changes nothing; one that is admitted is performed
module _ (d : Store) (q : Request) where
  pub turned_away : (r : Refusal) → Err r ≡ admitted (refusal_of d (Some q)) (foretold q.action d.state)
      → step_on d (Some q) ≡ refuse d r
  turned_away r p = step_refused d (Some q) r (admitted-Err _ _ r p)

  module _ (r : Reply) (p : Ok r ≡ admitted (refusal_of d (Some q)) (foretold q.action d.state)) where
    none_met : refusal_of d (Some q) ≡ None
    none_met = admitted-Ok _ _ _ p

    pub has_number : valid q.transaction ≡ true
    has_number = accepted_valid d q.transaction q.action none_met

    pub foretells : r ≡ foretold q.action d.state
    foretells = let z : ◌≡◌ {A = Result Reply Refusal} (Ok r) (Ok (foretold q.action d.state)) = rw none_met at p in cc

    pub admits : (e : ℕ) → e ≡ q.transaction → refusal_of d (request e q.action) ≡ None
    admits e n = rw n none_met

    pub performed : (e : ℕ) → e ≡ q.transaction → step_on d (Some q) ≡ perform d e q.action
    performed e n = rw n (step_accepted d q.transaction q.action none_met)

-- no request is admitted whose cue is out of range
pub no_cue : {A : Type 0} (d : Store) (e : ℕ) (a : Action) (c : Option Call) → refusal_of d (request e a) ≡ None
    → a ≡ call c → c ≡ None → A
no_cue d e a c m p q = no_call d e (rw (p, q) at m)

pub ruleset request_rules = (turned_away, has_number, foretells, admits, performed)

-- ---- recovery's requests: one that its transaction's standing does not ask for changes nothing
pub not_asked : (d : Store) (e : ℕ) (a : Action) → ((transaction d e).standing ≡ asks a → ⊥)
    → d ≡ (step_on d (request e a)).store
not_asked d e a n =
    step_case d e a (λ o. d ≡ o.store) (λ r h. refl) (λ h. absurd (n (accepted_standing d e a h)))

module _ (d : Store) (e : ℕ) (v : valid e ≡ true) where
  pub abort_asked : (transaction d e).standing ≡ «open» → step_on d (request e abort) ≡ perform d e abort
  abort_asked s = step_accepted d e abort (Accepts-abort d e v s)

  pub roll_back_asked : (transaction d e).standing ≡ aborting → step_on d (request e roll_back) ≡ perform d e roll_back
  roll_back_asked s = step_accepted d e roll_back (Accepts-roll_back d e v s)

pub ruleset standing_rules = (not_asked, abort_asked, roll_back_asked)
