-- Entries and take entries, counted transaction by transaction; no log keeps more slots than it has entries. Assumes
-- nothing.
use Rattle.std.proofs.Common.{◌≡◌, ℕ, ◌+◌, ◌<◌, ◌≤◌, List, [], ◌∷◌, length, get_or, drop, refl, arith}
use Rattle.std.proofs.lemmas.List.{drop_more}
use Rattle.tables.proofs.Laws.{length_once}
use Rattle.boosting.specs.Undo.{Entry, added, removed, pushed, taken}
use Rattle.boosting.specs.Store.{Transaction}
use Rattle.boosting.specs.Room.{reserved_by, reserved_in, takes_by, takes_in}
use Rattle.slots.specs.Entries.{entries_in}

module _ (i : ℕ) (ts : List Transaction) (t : Transaction) (h : i < length ts) (is : t ≡ get_or ts i t) where
  pub entries_next : entries_in (drop i ts) ≡ length t.log + entries_in (drop (i + 1) ts)
  unfolding entries_in
  entries_next = rw (drop_more ts i t h, ← is) refl

  pub takes_next : takes_in (drop i ts) ≡ takes_by t.log + takes_in (drop (i + 1) ts)
  unfolding takes_in
  takes_next = rw (drop_more ts i t h, ← is) refl

-- a log keeps no more slots of the script than it has entries
pub length_by : (log : List Entry) (l : List ℕ) → length (reserved_by log l) ≤ length l + length log
unfolding reserved_by
length_by [] l = omega arith
length_by (added k ∷ log) l = omega (arith, length_by log l, length_once k (reserved_by log l))
length_by (removed k ∷ log) l = omega (arith, length_by log l, length_once k (reserved_by log l))
length_by (pushed k ∷ log) l = omega (arith, length_by log l)
length_by (taken k ∷ log) l = omega (arith, length_by log l)

-- nor do all logs
pub length_in : (ts : List Transaction) (l : List ℕ) → length (reserved_in ts l) ≤ length l + entries_in ts
unfolding reserved_in entries_in
length_in [] l = omega arith
length_in (t ∷ ts) l = omega (arith, length_in ts l, length_by t.log (reserved_in ts l))
