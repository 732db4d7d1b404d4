-- The lock listing has each line once: the lines of two transactions differ in the number, byte 5, those of locks and
-- modes in byte 0, those of two modes in byte 7, and those of two cue locks in their cues. Assumes nothing.
use Prim.Native.Nat.{ℕ, suc, ◌+◌, ◌≤◌, ◌<◌}
use mathlib.Core.Path.{◌≡◌, refl, sym, ap, ◌∙◌}
use mathlib.Core.Bool.{Bool, true}
use Rattle.std.specs.Prelude.{if◌then◌else◌}
use mathlib.Core.List.{List, [], ◌∷◌, ◌++◌}
use mathlib.Core.Logic.{◌⊎◌, inl, inr, ⊎_elim}
use native.Mathlib.Omega.{arith}
use lib.ListN.{length, get_or, drop}
use Rattle.digits.proofs.Laws.{digits_small}
use Rattle.cues.specs.Cue.{CueKey, cue_of}
use Rattle.cue_texts.specs.CueText.{cue_text}
use Rattle.tables.specs.Table.{member_of}
use Rattle.scripts.specs.ScriptText.{text_of}
use Rattle.scripts.specs.Theorems.{AllCues, SoundScript}
use Rattle.scripts.proofs.Theorems.{text_one_to_one}
use Rattle.boosting.specs.Locks.{Locks}
use Rattle.boosting.specs.Store.{Transaction}
use Rattle.boosting.specs.Listing.{lock_line, mode_line, lock_lines, modes_of, listing_of, listing_from}
use Rattle.boosting.specs.Sound.{Once, SoundTransaction, AllSound}
use Rattle.boosting.specs.Theorems.{Among, EachOnce, ListingOnce}

-- ---- lists of lines

Among-append : (line : List ℕ) (ls ms : List (List ℕ)) → Among line (ls ++ ms) → Among line ls ⊎ Among line ms
Among-append line [] ms h = inr h
Among-append line (l ∷ ls) ms h = grind (arith, Among-append line ls ms)

-- two lists of lines that have nothing in common
once_both : (ls ms : List (List ℕ)) → ((l : List ℕ) → Among l ls → Among l ms → ⊥) → EachOnce ls → EachOnce ms
    → EachOnce (ls ++ ms)
once_both [] ms n o p = p
once_both (l ∷ ls) ms n o p =
    (λ h. ⊎_elim o.0 (n l (inl refl)) (Among-append l ls ms h), once_both ls ms (λ m a. n m (inr a)) o.1 p)

-- at most one line in each of three lists
abbrev up_to_three : Bool → Bool → Bool → List ℕ → List ℕ → List ℕ → List (List ℕ)
up_to_three a b c p q r =
    (if a then p ∷ [] else []) ++ ((if b then q ∷ [] else []) ++ (if c then r ∷ [] else []))

three_once : (a b c : Bool) (p q r : List ℕ) → (p ≡ q → ⊥) → (p ≡ r → ⊥) → (q ≡ r → ⊥)
    → EachOnce (up_to_three a b c p q r)
three_once a b c p q r f g h = grind arith

three_are : (a b c : Bool) (p q r l : List ℕ) → Among l (up_to_three a b c p q r) → (l ≡ p) ⊎ ((l ≡ q) ⊎ (l ≡ r))
three_are a b c p q r l m = grind arith

-- ---- the lines of one transaction

abbrev Byte : ℕ → ℕ → List ℕ → Type 0
Byte i b l = get_or l i 0 ≡ b

module _ (e : ℕ) (h : e < 10) where
  lock_number : (k : ℕ) → Byte 5 (48 + e) (lock_line e k)
  lock_number k = rw (digits_small 19 e h) refl

  lock_cue : (k : ℕ) → drop 7 (lock_line e k) ≡ cue_text (cue_of k)
  lock_cue k = rw (digits_small 19 e h) refl

  mode_number : (word : List ℕ) → Byte 5 (48 + e) (mode_line e word)
  mode_number word = rw (digits_small 19 e h) refl

  mode_word : (word : List ℕ) → Byte 7 (get_or word 0 0) (mode_line e word)
  mode_word word = rw (digits_small 19 e h) refl

  -- two locks with one line are one
  same_cue : (j k : ℕ) → CueKey j → CueKey k → lock_line e j ≡ lock_line e k → j ≡ k
  unfolding text_of
  same_cue j k a b q =
      let t : cue_text (cue_of j) ≡ cue_text (cue_of k) = sym (lock_cue j) ∙ ap (drop 7) q ∙ lock_cue k in
      let s : j ∷ [] ≡ k ∷ [] =
      text_one_to_one (j ∷ []) (k ∷ []) (single j a) (single k b) (ap (λ (l : List ℕ). l ++ []) t) in
      cc
    where
      single : (i : ℕ) → CueKey i → SoundScript (i ∷ [])
      single i c = record { rising = (tt, tt); in_range = (c, tt); at_most = omega arith }

  Among-locks : (k : ℕ) (ks : List ℕ) → CueKey k → AllCues ks → Among (lock_line e k) (lock_lines e ks)
      → member_of k ks ≡ true
  unfolding lock_lines member_of
  Among-locks k [] a b m = absurd m
  Among-locks k (j ∷ ks) a b m = grind (arith, same_cue k j a b.0, Among-locks k ks a b.1)

  locks_once : (ks : List ℕ) → Once ks → AllCues ks → EachOnce (lock_lines e ks)
  unfolding lock_lines
  locks_once [] o a = tt
  locks_once (k ∷ ks) o a =
      (λ m. cc (Among-locks k ks a.0 a.1 m, o.0), locks_once ks o.1 a.1)

  at_lock : (l : List ℕ) (ks : List ℕ) → Among l (lock_lines e ks) → Byte 0 108 l × Byte 5 (48 + e) l
  unfolding lock_lines
  at_lock l [] m = absurd m
  at_lock l (k ∷ ks) (inl q) = rw q (refl, lock_number k)
  at_lock l (k ∷ ks) (inr m) = at_lock l ks m

  at_mode : (l : List ℕ) (x : Locks) → Among l (modes_of e x) → Byte 0 109 l × Byte 5 (48 + e) l
  at_mode l x m = grind (arith, three_are x.pushes x.looks x.takes _ _ _ l m, mode_number)

  differ : (u v : List ℕ) → (get_or u 0 0 ≡ get_or v 0 0 → ⊥) → mode_line e u ≡ mode_line e v → ⊥
  differ u v n q = n (cc (mode_word u, mode_word v))

  modes_once : (x : Locks) → EachOnce (modes_of e x)
  modes_once x =
      three_once x.pushes x.looks x.takes _ _ _ (differ _ _ (λ q. omega arith)) (differ _ _ (λ q. omega arith))
      (differ _ _ (λ q. omega arith))

  listing_number : (l : List ℕ) (x : Locks) → Among l (listing_of e x) → Byte 5 (48 + e) l
  listing_number l x m =
      ⊎_elim (λ a. (at_lock l x.cues a).1) (λ a. (at_mode l x a).1)
      (Among-append l (lock_lines e x.cues) (modes_of e x) m)

  listing_of_once : (t : Transaction) → SoundTransaction t → EachOnce (listing_of e t.locks)
  listing_of_once t v =
      let x = t.locks in
      once_both (lock_lines e x.cues) (modes_of e x)
      (λ l a b. omega (arith, (at_lock l x.cues a).0, (at_mode l x b).0))
      (locks_once x.cues v.locks_once v.locks_in_range) (modes_once x)

-- ---- all transactions

number_from : (l : List ℕ) (e : ℕ) (ts : List Transaction) → e + length ts < 10 → Among l (listing_from e ts)
    → 48 + e ≤ get_or l 5 0
unfolding listing_from
number_from l e [] h m = absurd m
number_from l e (t ∷ ts) h m =
    ⊎_elim (λ a. omega (arith, listing_number e (omega arith) l t.locks a))
    (λ a. omega (arith, number_from l (suc e) ts (omega arith) a))
    (Among-append l (listing_of e t.locks) (listing_from (suc e) ts) m)

from_once : (e : ℕ) (ts : List Transaction) → e + length ts < 10 → AllSound ts → EachOnce (listing_from e ts)
unfolding listing_from
from_once e [] h v = tt
from_once e (t ∷ ts) h v =
    let i : e < 10 = omega arith in
    let j : suc e + length ts < 10 = omega arith in
    once_both (listing_of e t.locks) (listing_from (suc e) ts)
    (λ l a b. omega (arith, listing_number e i l t.locks a, number_from l (suc e) ts j b))
    (listing_of_once e i t v.0) (from_once (suc e) ts j v.1)

pub listing_once : ListingOnce
listing_once d v = from_once 1 d.transactions (omega (arith, v.eight)) v.transactions_sound
