-- The invariant of a run. The desk's state is that of a plain desk that was fed first the settled calls, those of
-- committed transactions in commit order, and then a trace of the unclosed transactions' calls; with the same
-- replies. Calls of different transactions in the trace change places, each has its lock held, each log has the
-- entries of its transaction's calls. Shown here: begin, call, commit, and taking back keep it. Assumes nothing.
use Prim.Native.Nat.{ℕ}
use mathlib.Core.Path.{◌≡◌}
use mathlib.Core.Bool.{true, cond}
use mathlib.Core.List.{List, [], ◌∷◌, ◌++◌}
use Rattle.std.specs.Prelude.{None}
use native.Mathlib.Omega.{arith}
use lib.Dec.{eqb}
use lib.ListN.{length}
use Rattle.std.proofs.lemmas.Bool.{cases_eq}
use Rattle.boosting.specs.Object.{Call, State, effect, reply}
use Rattle.boosting.specs.Locks.{lock_of, holds}
use Rattle.boosting.specs.Store.{valid, put, closed_transaction, closed, «open», Transaction, open_transaction, Store}
use Rattle.boosting.specs.Store.{transaction, blocker}
use Rattle.boosting.proofs.ObjectLaws.{Good, Free, Free-sym, holds_new, holds_old, locks_sound}
use Rattle.boosting.proofs.StoreLaws.{changed, no_conflict}
use Rattle.boosting.proofs.Accepted.{called}
use Rattle.boosting.proofs.Trace.{Item, play, Same, In, mine, others, entries, Clear, play-Good, play-append}
use Rattle.boosting.proofs.Trace.{Same-append, In-others, mine_none, none_of, split, mine-others, cut, undo_all}

-- ---- the invariant

-- `settled` are the calls of the committed transactions, `pending e` those of e since its begin; newest first
pub record Invariant (start : State) (d : Store) (pending : ℕ → List Item) (settled : List Item) : Type 0 where
  pub eight : length d.transactions ≡ 8
  pub trace : List Item
  pub state : d.state ≡ play (play start settled) trace
  pub told : Same start settled
  pub same : Same (play start settled) trace
  pub clear : Clear trace
  pub unclosed : (i : Item) → In i trace → (transaction d i.of).standing ≡ closed → ⊥
  pub locked : (i : Item) → In i trace → holds (lock_of i.call) (transaction d i.of).locks ≡ true
  pub logs : (e : ℕ) → ((transaction d e).standing ≡ closed → ⊥) → (transaction d e).log ≡ entries (mine e trace)
  pub own : (e : ℕ) → (transaction d e).standing ≡ «open» → pending e ≡ mine e trace

module _ (start : State) (g : Good start) (d : Store) (pending : ℕ → List Item) (settled : List Item) (e : ℕ)
    (v : Invariant start d pending settled) (ok : valid e ≡ true) where
  -- an accepted begin: e has no calls in the trace
  pub begin_keeps : (transaction d e).standing ≡ closed
      → Invariant start (put d d.state e open_transaction) (λ f. cond (eqb e f) [] (pending f)) settled
  unfolding open_transaction entries put
  begin_keeps st =
      let ch = changed d d.state e open_transaction v.eight ok in
      let none : (i : Item) → In i v.trace → i.of ≡ e → ⊥ = λ i p q. v.unclosed i p (cc) in
      let m = none_of e v.trace none in
      record {
        eight = ch.eight;
        trace = v.trace;
        state = v.state;
        told = v.told;
        same = v.same;
        clear = v.clear;
        unclosed = λ i p. rw (ch.old i.of (none i p)) (v.unclosed i p);
        locked = λ i p. rw (ch.old i.of (none i p)) (v.locked i p);
        logs = λ f s. grind (arith, cases_eq f e, ch.new, ch.old f, v.logs f, m);
        own = λ f s. grind (arith, cases_eq f e, ch.new, ch.old f, v.own f, m);
      }

  -- an accepted call: it goes to the front of the trace
  module _ (c : Call) (st : (transaction d e).standing ≡ «open»)
      (free : blocker e (lock_of c) 1 d.transactions ≡ None) where
    abbrev it : Item
    it = record { of = e; call = c; reply = reply c d.state }

    free_of : (j : Item) → In j v.trace → (j.of ≡ e → ⊥) → Free c j.call
    free_of j p n =
        locks_sound c j.call (transaction d j.of).locks
        (no_conflict d e (lock_of c) free j.of n) (v.locked j p)

    call_clear : Clear (it ∷ v.trace)
    call_clear i j p q n = grind (arith, free_of j, free_of i, Free-sym c i.call, v.clear i j)

    pub call_keeps : Invariant start (put d (effect c d.state) e (called d e c))
        (λ f. cond (eqb e f) (it ∷ pending f) (pending f)) settled
    unfolding play mine entries put
    call_keeps =
        let ch = changed d (effect c d.state) e (called d e c) v.eight ok in
        let new = holds_new (lock_of c) (transaction d e).locks in
        let old = λ (i : Item). holds_old (lock_of i.call) (lock_of c) (transaction d e).locks in
        record {
          eight = ch.eight;
          trace = it ∷ v.trace;
          state = cc v.state;
          told = v.told;
          same = (cc v.state, v.same);
          clear = call_clear;
          unclosed = λ i p s. grind (arith, cases_eq i.of e, ch.new, ch.old i.of, v.unclosed i);
          locked = λ i p. grind (arith, cases_eq i.of e, ch.new, ch.old i.of, v.locked i, new, old i);
          logs = λ f s. grind (arith, cases_eq f e, ch.new, ch.old f, v.logs f);
          own = λ f s. grind (arith, cases_eq f e, ch.new, ch.old f, v.own f);
        }

  -- an accepted commit: e's calls are settled
  pub commit_keeps : (transaction d e).standing ≡ «open»
      → Invariant start (put d d.state e closed_transaction) pending (pending e ++ settled)
  unfolding closed_transaction put
  commit_keeps st =
      let ch = changed d d.state e closed_transaction v.eight ok in
      let base = play start settled in
      let sp = split e base v.trace (play-Good start settled g) v.clear v.same in
      let own = v.own e st in
      let after : play start (pending e ++ settled) ≡ play base (mine e v.trace) =
      cc (play-append start (pending e) settled) in
      let left = In-others e v.trace in
      record {
        eight = ch.eight;
        trace = others e v.trace;
        state = cc (v.state, sp.state);
        told = Same-append start (pending e) settled (rw own sp.own) v.told;
        same = rw after sp.rest;
        clear = λ i j p q. v.clear i j (left i p).0 (left j q).0;
        unclosed = λ i p. rw (ch.old i.of (left i p).1) (v.unclosed i (left i p).0);
        locked = λ i p. rw (ch.old i.of (left i p).1) (v.locked i (left i p).0);
        logs = λ f s. grind (arith, cases_eq f e, ch.new, ch.old f, v.logs f, mine-others e f v.trace);
        own = λ f s. grind (arith, cases_eq f e, ch.new, ch.old f, v.own f, mine-others e f v.trace);
      }

  -- an accepted abort or rollback step: e's newest calls q are taken back (perhaps none), p are left
  pub cut_keeps : (s : State) (x : Transaction) (q p : List Item) → mine e v.trace ≡ q ++ p
      → s ≡ undo_all (entries q) d.state → (x.standing ≡ «open» → ⊥) → (x.standing ≡ closed → p ≡ [])
      → ((x.standing ≡ closed → ⊥) → x.locks ≡ (transaction d e).locks)
      → ((x.standing ≡ closed → ⊥) → x.log ≡ entries p) → Invariant start (put d s e x) pending settled
  unfolding put
  cut_keeps s x q p m new_state not_open closed_none locks log =
      let ch = changed d s e x v.eight ok in
      let c = cut e (play start settled) q p v.trace (play-Good start settled g) v.clear v.same m in
      let left : (i : Item) → In i c.trace → i.of ≡ e → x.standing ≡ closed → ⊥ =
      λ i w r k. mine_none e c.trace (cc (c.own, closed_none k)) i w r in
      record {
        eight = ch.eight;
        trace = c.trace;
        state = cc (v.state, c.state);
        told = v.told;
        same = c.same;
        clear = λ i j a b. v.clear i j (c.sub i a) (c.sub j b);
        unclosed = λ i w k. grind (arith, cases_eq i.of e, ch.new, ch.old i.of, left i w, v.unclosed i (c.sub i w));
        locked = λ i w. grind (arith, cases_eq i.of e, ch.new, ch.old i.of, left i w, locks, v.locked i (c.sub i w));
        logs = λ f k. grind (arith, cases_eq f e, ch.new, ch.old f, v.logs f, c.own, c.mines f, log);
        own = λ f k. grind (arith, cases_eq f e, ch.new, ch.old f, v.own f, c.mines f, not_open);
      }
