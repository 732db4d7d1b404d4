-- The lines of the listing and their lengths, as the code goes through them. Assumes nothing.
use mathlib.Core.Path.{◌≡◌, refl, sym, ap, ◌∙◌}
use mathlib.Core.Bool.{Bool, true, false}
use mathlib.Core.List.{List, [], ◌∷◌, ◌++◌, flatten, append_assoc, append-nil}
use Prim.Native.Nat.{ℕ, suc, ◌+◌, ◌≤◌, ◌<◌}
use native.Mathlib.Numerals.{add-one}
use native.Mathlib.Omega.{arith}
use lib.ListN.{length, drop, get_or, length-append}
use Rattle.std.proofs.lemmas.List.{drop_more, drop_all}
use Rattle.buffers.proofs.Rest.{Parts, no_room_left}
use Rattle.buffers.specs.Written.{written_at}
use mathlib.Core.List.Perm
use lib.Dec.{leb}
use Rattle.std.specs.Prelude.{Result, Err}
use Rattle.refusals.specs.declared.Refusal.{Refusal}
use Rattle.refusals.specs.declared.Refusal.TheVariants.{BufferTooShort}
use Rattle.lines.specs.Ascii.{bytes}
use Rattle.digits.specs.Digits.{digits_of}
use Rattle.records.specs.Record.{field_text}
use Rattle.cues.specs.Cue.{cue_of}
use Rattle.cue_texts.specs.CueText.{cue_text}
use Rattle.boosting.specs.Locks.{Locks}
use Rattle.boosting.specs.Store.{Transaction}
use Rattle.boosting.specs.Listing.{lock_line, mode_line, lock_lines, mode_lines, modes_of, listing_of, listing_from}
use Rattle.lock_listing.specs.Listed.{ListingWritten, mode_text, modes_text, locks_text, listing_text}

-- ---- one line
line_length : (e : ℕ) (u v : List ℕ)
    → length (u ++ (field_text e 44 ++ v)) ≡ length u + (length (digits_of e) + 1 + length v)
line_length e u v =
    length-append u (field_text e 44 ++ v)
    ∙ ap (λ (n : ℕ). length u + n)
    (length-append (field_text e 44) v ∙ ap (λ (n : ℕ). n + length v) (length-append (digits_of e) (44 ∷ [])))

pub lock_line_counted : (e k : ℕ) → length (lock_line e k) ≡ length (digits_of e) + length (cue_text (cue_of k)) + 6
lock_line_counted e k = omega (arith, line_length e (bytes "lock,") (cue_text (cue_of k)))

one : (l : List ℕ) → flatten (l ∷ []) ≡ l
unfolding flatten
one l = append-nil l

-- a mode that is held has one line, a mode that is not has none
pub held_text : (e : ℕ) (held : Bool) (word : List ℕ) → held ≡ true
    → mode_text e held word ≡ (bytes "mode," ++ field_text e 44) ++ word
held_text e held word h = rw h (one (mode_line e word))

pub held_length : (e : ℕ) (held : Bool) (word : List ℕ) → held ≡ true
    → length (mode_text e held word) ≡ length (digits_of e) + length word + 6
held_length e held word h =
    ap length (held_text e held word h) ∙ omega (arith, line_length e (bytes "mode,") word)

pub unheld_text : (e : ℕ) (held : Bool) (word : List ℕ) → held ≡ false → mode_text e held word ≡ []
unfolding flatten
unheld_text e held word h = rw h

-- a mode's line behind other lines
module _ (e : ℕ) (held : Bool) (word lines : List ℕ) where
  pub pushed_held : (one two three : List ℕ) → one ≡ lines ++ bytes "mode," → two ≡ one ++ field_text e 44
      → three ≡ two ++ word → held ≡ true → three ≡ lines ++ mode_text e held word
  pushed_held one two three p q r h =
      let mode = bytes "mode," in
      let field = field_text e 44 in
      r ∙ rw (q, p, held_text e held word h)
      (ap (λ (x : List ℕ). x ++ word) (append_assoc lines mode field) ∙ append_assoc lines (mode ++ field) word)

  pub pushed_none : held ≡ false → lines ≡ lines ++ mode_text e held word
  pushed_none h = rw (unheld_text e held word h) (sym (append-nil lines))

pub ruleset mode_rules = (held_length, unheld_text, pushed_none)

-- ---- one transaction
pub flatten-append : (ls ms : List (List ℕ)) → flatten (ls ++ ms) ≡ flatten ls ++ flatten ms
unfolding flatten
flatten-append [] ms = refl
flatten-append (l ∷ ls) ms =
    ap (λ (t : List ℕ). l ++ t) (flatten-append ls ms) ∙ sym (append_assoc l (flatten ls) (flatten ms))

pub append-length : (ls ms : List (List ℕ))
    → length (flatten (ls ++ ms)) ≡ length (flatten ls) + length (flatten ms)
append-length ls ms = ap length (flatten-append ls ms) ∙ length-append (flatten ls) (flatten ms)

-- its three modes, one behind the other
module _ (e : ℕ) (l : Locks) where
  abbrev pub push_text : List ℕ
  push_text = mode_text e l.pushes (bytes "push\n")

  abbrev pub look_text : List ℕ
  look_text = mode_text e l.looks (bytes "look\n")

  abbrev pub take_text : List ℕ
  take_text = mode_text e l.takes (bytes "take\n")

  pub modes_in_order : (push_text ++ look_text) ++ take_text ≡ modes_text e l
  modes_in_order =
      let push = mode_lines e l.pushes (bytes "push\n") in
      let look = mode_lines e l.looks (bytes "look\n") in
      let take = mode_lines e l.takes (bytes "take\n") in
      append_assoc push_text look_text take_text
      ∙ sym
      (flatten-append push (look ++ take) ∙ ap (λ (t : List ℕ). push_text ++ t) (flatten-append look take))

  pub modes_length : length (modes_text e l) ≡ length push_text + (length look_text + length take_text)
  modes_length =
      ap length (sym modes_in_order)
      ∙ omega (arith, length-append (push_text ++ look_text) take_text, length-append push_text look_text)

-- the lines of its cue locks from place j on, and of its modes
abbrev pub locks_from : ℕ → Locks → ℕ → List ℕ
locks_from e l j = flatten (lock_lines e (drop j l.cues) ++ modes_of e l)

module _ (e : ℕ) (l : Locks) (j : ℕ) where
  module _ (k : ℕ) (h : j < length l.cues) where
    pub locks_next : locks_from e l j ≡ lock_line e (get_or l.cues j k) ++ locks_from e l (j + 1)
    unfolding flatten lock_lines
    locks_next = rw (drop_more l.cues j k h) refl

    pub locks_next_length : length (locks_from e l j)
        ≡ length (lock_line e (get_or l.cues j k)) + length (locks_from e l (j + 1))
    locks_next_length = ap length locks_next ∙ length-append (lock_line e (get_or l.cues j k)) (locks_from e l (j + 1))

  -- the line that is written next
  pub locks_parts : (items line : List ℕ) (k : ℕ) → items ≡ l.cues → j < length items
      → line ≡ lock_line e (get_or items j k) → Parts (locks_from e l j) line (locks_from e l (j + 1))
  locks_parts items line k q h r =
      let g : j < length l.cues = omega (arith, ap length q) in
      record { are = locks_next k g ∙ rw (r, q) refl }

-- ---- all eight
-- the lines of the transactions from place i on, which is number i + 1
abbrev pub listing_after : List Transaction → ℕ → List ℕ
listing_after ts i = flatten (listing_from (i + 1) (drop i ts))

module _ (ts : List Transaction) (i : ℕ) where
  module _ (t : Transaction) (h : i < length ts) where
    pub listing_next : listing_after ts i ≡ locks_text (i + 1) (get_or ts i t).locks ++ listing_after ts (i + 1)
    unfolding listing_from
    listing_next =
        rw (drop_more ts i t h, add-one (i + 1))
        (flatten-append (listing_of (i + 1) (get_or ts i t).locks) (listing_from (suc (i + 1)) (drop (i + 1) ts)))

    pub listing_next_length : length (listing_after ts i)
        ≡ length (locks_text (i + 1) (get_or ts i t).locks) + length (listing_after ts (i + 1))
    listing_next_length =
        ap length listing_next ∙ length-append (locks_text (i + 1) (get_or ts i t).locks) (listing_after ts (i + 1))

  -- the lines that are written next
  pub listing_parts : (t : Transaction) (l : Locks) → i < length ts → l ≡ (get_or ts i t).locks
      → Parts (listing_after ts i) (locks_text (i + 1) l) (listing_after ts (i + 1))
  listing_parts t l h q = record { are = listing_next t h ∙ rw q refl }

  pub listing_over : length ts ≤ i → listing_after ts i ≡ []
  unfolding flatten listing_from
  listing_over h = rw (drop_all i ts h) refl

-- ---- the lines that the program writes: those of the model, in its order
pub in_order : (ts : List Transaction) (at : ℕ) (before : List ℕ) {after : List ℕ} {r : Result ℕ Refusal}
    → (r, after) ≡ written_at before at (listing_text ts) → ListingWritten ts at before after r
in_order ts at before w =
    let lines = listing_from 1 ts in record { lines = lines; order = Perm.refl lines; written = w }

pub no_listing : (ts : List Transaction) (at : ℕ) (buf : List ℕ) → leb (at + length (listing_text ts)) (length buf) ≡ false
    → ListingWritten ts at buf buf (Err BufferTooShort)
no_listing ts at buf h = in_order ts at buf (no_room_left buf (listing_text ts) at h)

pub ruleset listing_rules = (listing_next_length, listing_over, no_listing)
