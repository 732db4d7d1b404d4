-- The script's slots, put into a table entry by entry and transaction by transaction. Assumes nothing.
use Rattle.std.proofs.Common.{◌≡◌, ℕ, ◌+◌, ◌-◌, ◌<◌, ◌≤◌, false, not, List, [], ◌∷◌, length, get_or, take, drop, reverse, refl, sym, ap, ◌∙◌, arith}
use Rattle.std.specs.Prelude.{Some}
use Rattle.std.proofs.lemmas.Bool.{lt-leb, le-leb}
use Rattle.std.proofs.lemmas.List.{take_more, drop_more, drop_all, get_or-reverse, reverse-append}
use Rattle.tables.specs.Table.{member_of, put_once_of}
use Rattle.tables.proofs.Laws.{split, length_once}
use Rattle.boosting.specs.Undo.{Entry, added, removed, pushed, taken}
use Rattle.boosting.specs.Store.{Transaction}
use Rattle.boosting.specs.Room.{reserved_by, reserved_in, script_full}
use Rattle.slots.proofs.Counts.{length_by, length_in}

-- where there is room for one more, the key has room
pub once_fits : (k : ℕ) (l : List ℕ) → length l < 385 → length (put_once_of k l) ≤ 385
once_fits k l h = omega (arith, h, length_once k l)

-- one entry after the others
by_one : (n : Entry) (log : List Entry) (l : List ℕ) → reserved_by (n ∷ log) l ≡ reserved_by (n ∷ []) (reserved_by log l)
unfolding reserved_by
by_one (added k) log l = refl
by_one (removed k) log l = refl
by_one (pushed k) log l = refl
by_one (taken k) log l = refl

-- none so far
pub by_none : (l : List ℕ) → l ≡ reserved_by [] l
unfolding reserved_by
by_none l = refl

-- the entries up to a place, newest first, and the next one
module _ (i : ℕ) (items : List Entry) (d : Entry) (h : i < length items) where
  next : reverse (take (i + 1) items) ≡ get_or items i d ∷ reverse (take i items)
  next = ap reverse (take_more items i d h) ∙ reverse-append (take i items) (get_or items i d ∷ [])

  pub by_next : (slots to start : List ℕ) → slots ≡ reserved_by (reverse (take i items)) start
      → to ≡ reserved_by (get_or items i d ∷ []) slots → to ≡ reserved_by (reverse (take (i + 1) items)) start
  by_next slots to start r q = q ∙ rw (next, r) (sym (by_one (get_or items i d) (reverse (take i items)) start))

-- one entry takes at most one slot
pub length_entry : (n : Entry) (slots to : List ℕ) → to ≡ reserved_by (n ∷ []) slots → length to ≤ length slots + 1
length_entry n slots to q = rw q (length_by (n ∷ []) slots)

-- the slots of the last n transactions, which are put in from the last one to the first
pub in_none : (i : ℕ) (ts : List Transaction) (l : List ℕ) → length ts ≤ i → l ≡ reserved_in (drop i ts) l
unfolding reserved_in
in_none i ts l h = rw (drop_all i ts h) refl

pub in_next : (n m : ℕ) (ts : List Transaction) (t : Transaction) (l slots to : List ℕ) → n < length ts → m ≡ n + 1
    → t ≡ get_or (reverse ts) n t → slots ≡ reserved_in (drop (length ts - n) ts) l → to ≡ reserved_by t.log slots
    → to ≡ reserved_in (drop (length ts - m) ts) l
unfolding reserved_in
in_next n m ts t l slots to h k is r q =
    let j = length ts - m in
    let above : j + 1 ≡ length ts - n = omega arith in
    let same : get_or ts j t ≡ t = ap (λ (i : ℕ). get_or ts i t) (omega arith) ∙ sym (is ∙ get_or-reverse ts n t h) in
    q ∙ rw (r, drop_more ts j t (omega arith), same, above) refl

-- room by the count, or by the cue
module _ (key : ℕ) (slots : List ℕ) where
  pub room_left : length slots < 256 → false ≡ script_full (Some (added key)) slots
  room_left h = split (member_of key slots) (λ m. rw m refl) (λ m. rw (m, lt-leb 256 (length slots) h) refl)

  pub room_held : 256 ≤ length slots → not (member_of key slots) ≡ script_full (Some (added key)) slots
  room_held h = split (member_of key slots) (λ m. rw m refl) (λ m. rw (m, le-leb 256 (length slots) h) refl)

pub ruleset entry_rules = (once_fits)

pub ruleset log_rules = (by_none, by_next, length_entry)

pub ruleset room_rules = (room_left, room_held, length_in)
