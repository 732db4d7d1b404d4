-- A search through the transactions from the front: those still to be looked at decide. Assumes nothing.
use Rattle.std.proofs.Common.{◌≡◌, ◌≢◌, ℕ, ◌+◌, ◌<◌, ◌≤◌, Bool, true, false, List, length, get_or, drop, refl, add-one}
use Rattle.std.specs.Prelude.{Some, None, nat_eq}
use Rattle.std.proofs.lemmas.Bool.{eq-eqb, ne_eqb}
use Rattle.std.proofs.lemmas.List.{drop_more, drop_all}
use Rattle.tables.specs.Table.{member_of}
use Rattle.tables.proofs.Laws.{split}
use Rattle.boosting.specs.Locks.{Lock, cue_lock, Locks, conflicts}
use Rattle.boosting.specs.Store.{Transaction, blocker}

-- the transaction at place i has the number i + 1
module _ (e : ℕ) (lock : Lock) (i : ℕ) (ts : List Transaction) (t : Transaction) (h : i < length ts) (is : t ≡ get_or ts i t) where
  pub blocker-own : i + 1 ≡ e → blocker e lock (i + 1 + 1) (drop (i + 1) ts) ≡ blocker e lock (i + 1) (drop i ts)
  unfolding blocker
  blocker-own q = rw (drop_more ts i t h, eq-eqb (i + 1) e q, add-one (i + 1)) refl

  pub blocker-here : i + 1 ≢ e → conflicts lock t.locks ≡ true → blocker e lock (i + 1) (drop i ts) ≡ Some (i + 1)
  unfolding blocker
  blocker-here q c = rw (drop_more ts i t h, ne_eqb (i + 1) e q, ← is, c) refl

  pub blocker-passed : conflicts lock t.locks ≡ false → blocker e lock (i + 1 + 1) (drop (i + 1) ts) ≡ blocker e lock (i + 1) (drop i ts)
  unfolding blocker
  blocker-passed c =
      split (nat_eq (i + 1) e) (λ q. rw (drop_more ts i t h, q, add-one (i + 1)) refl)
      (λ q. rw (drop_more ts i t h, q, ← is, c, add-one (i + 1)) refl)

pub blocker-over : (e : ℕ) (lock : Lock) (i : ℕ) (ts : List Transaction) → length ts ≤ i → blocker e lock (i + 1) (drop i ts) ≡ None
unfolding blocker
blocker-over e k i ts h = rw (drop_all i ts h) refl

-- a cue lock is in conflict where the cue is locked
pub conflicts-cue : (key : ℕ) (l : Locks) (b : Bool) → member_of key l.cues ≡ b → conflicts (cue_lock key) l ≡ b
unfolding conflicts
conflicts-cue key l b m = m

pub ruleset blocker_rules = (blocker-own, blocker-here, blocker-passed, blocker-over, conflicts-cue)
