-- The theorems of specs/Theorems, by what a permutation is made of. Assumes nothing.
use mathlib.Core.Path.{◌≡◌, refl, sym, ap, ◌∙◌}
use mathlib.Core.Bool.{Bool, true, false}
use mathlib.Core.HLevel.{Unit-prop, ¬_prop, ×_prop}
use mathlib.Core.Logic.{inl, inr, ∥∥₁_elim}
use mathlib.Core.List.Permᴰ
use mathlib.Core.List.{
  List,
  [],
  ◌∷◌,
  flatten,
  Permᴰ,
}
use Prim.Native.Nat.{ℕ, suc, ◌+◌, ◌*◌, ◌≤◌, ◌<◌}
use native.Mathlib.Nat.{ℕ_set}
use native.Mathlib.Omega.{arith}
use lib.ListN.{length, length-append}
use Rattle.lines.specs.Ascii.{bytes}
use Rattle.digits.specs.Digits.{digits_of}
use Rattle.digits.proofs.Laws.{digits_small}
use Rattle.cues.specs.Cue.{cue_of}
use Rattle.cue_texts.proofs.Theorems.{cue_line_short}
use Rattle.scripts.specs.Theorems.{AllCues}
use Rattle.boosting.specs.Store.{Transaction}
use Rattle.boosting.specs.Listing.{lock_line, lock_lines, modes_of, listing_of, listing_from}
use Rattle.boosting.specs.Locks.{Locks}
use Rattle.boosting.specs.Sound.{SoundTransaction, AllSound}
use Rattle.boosting.specs.Theorems.{Among, EachOnce}
use Rattle.boosting.proofs.Listing.{listing_once}
use Rattle.lock_listing.specs.Listed.{mode_text}
use Rattle.lock_listing.specs.Theorems.{LengthOfEveryOrder, LinesOnce, ListingShort}
use Rattle.lock_listing.proofs.Listings.{
  lock_line_counted,
  held_length,
  unheld_text,
  append-length,
  modes_length,
}

-- ---- the length
cons-length : (l : List ℕ) (ls : List (List ℕ)) → length (flatten (l ∷ ls)) ≡ length l + length (flatten ls)
unfolding flatten
cons-length l ls = length-append l (flatten ls)

same_length : {ls ms : List (List ℕ)} → Permᴰ ls ms → length (flatten ls) ≡ length (flatten ms)
same_length Permᴰ.nil = refl
same_length (Permᴰ.cons {a} {b} {l₁} {l₂} q d) =
    omega (arith, cons-length a l₁, cons-length b l₂, ap length q, same_length d)
same_length (Permᴰ.swap {a} {b} {a'} {b'} {l} p q) =
    omega
    (arith, cons-length a (b ∷ l), cons-length b l, cons-length a' (b' ∷ l), cons-length b' l, ap length p, ap length q)
same_length (Permᴰ.trans p q) = same_length p ∙ same_length q

pub length_of_every_order : LengthOfEveryOrder
length_of_every_order ls ms p = ∥∥₁_elim p (ℕ_set (length (flatten ls)) (length (flatten ms))) same_length

-- ---- each line once
still_among : {ls ms : List (List ℕ)} (line : List ℕ) → Permᴰ ls ms → Among line ls → Among line ms
still_among line Permᴰ.nil h = h
still_among line (Permᴰ.cons q d) (inl e) = inl (e ∙ q)
still_among line (Permᴰ.cons q d) (inr h) = inr (still_among line d h)
still_among line (Permᴰ.swap p q) (inl e) = inr (inl (e ∙ p))
still_among line (Permᴰ.swap p q) (inr (inl e)) = inl (e ∙ q)
still_among line (Permᴰ.swap p q) (inr (inr h)) = inr (inr h)
still_among line (Permᴰ.trans p q) h = still_among line q (still_among line p h)

-- an equal line stands there too
as_equal : (a b : List ℕ) (ls : List (List ℕ)) → a ≡ b → Among a ls → Among b ls
as_equal a b [] q h = h
as_equal a b (l ∷ ls) q (inl e) = inl (sym q ∙ e)
as_equal a b (l ∷ ls) q (inr h) = inr (as_equal a b ls q h)

still_once : {ls ms : List (List ℕ)} → Permᴰ ls ms → EachOnce ls → EachOnce ms
still_once Permᴰ.nil o = o
still_once (Permᴰ.cons {a} {b} {l₁} {l₂} q d) o =
    (λ h. o.0 (still_among a (Permᴰ.symm d) (as_equal b a l₂ (sym q) h)), still_once d o.1)
still_once (Permᴰ.swap {a} {b} {a'} {b'} {l} p q) o =
    (second, (λ h. o.0 (inr (as_equal b' a l (sym p) h)), o.1.1))
  where
    second : Among a' (b' ∷ l) → ⊥
    second (inl e) = o.0 (inl (p ∙ sym e ∙ sym q))
    second (inr h) = o.1.0 (as_equal a' b l (sym q) h)
still_once (Permᴰ.trans p q) o = still_once q (still_once p o)

once_prop : (ls : List (List ℕ)) (o p : EachOnce ls) → o ≡ p
once_prop [] o p = Unit-prop o p
once_prop (l ∷ ls) o p = ×_prop ¬_prop (once_prop ls) o p

pub lines_once : LinesOnce
lines_once d v at before after r w =
    ∥∥₁_elim w.order (once_prop w.lines) (λ p. still_once (Permᴰ.symm p) (listing_once d v))

-- ---- at most 4,320 bytes
module _ (e : ℕ) (h : e < 10) where
  one_digit : length (digits_of e) ≡ 1
  one_digit = ap length (digits_small 19 e h)

  locks_short : (ks : List ℕ) → AllCues ks → length (flatten (lock_lines e ks)) ≤ 21 * length ks
  unfolding flatten lock_lines
  locks_short [] a = omega arith
  locks_short (k ∷ ks) a =
      let c = cue_line_short (cue_of k) a.0.in_range in
      let l = length-append (lock_line e k) (flatten (lock_lines e ks)) in
      omega (arith, c, l, lock_line_counted e k, one_digit, locks_short ks a.1)

  mode_short : (held : Bool) (word : List ℕ) → length word ≡ 5 → length (mode_text e held word) ≤ 12
  mode_short true word n = omega (arith, held_length e true word refl, one_digit, n)
  mode_short false word n = omega (arith, ap length (unheld_text e false word refl))

  modes_short : (l : Locks) → length (flatten (modes_of e l)) ≤ 36
  modes_short l =
      let push = mode_short l.pushes (bytes "push\n") refl in
      let look = mode_short l.looks (bytes "look\n") refl in
      let take = mode_short l.takes (bytes "take\n") refl in
      omega (arith, modes_length e l, push, look, take)

  transaction_short : (t : Transaction) → SoundTransaction t → length (flatten (listing_of e t.locks)) ≤ 540
  transaction_short t v =
      let l = t.locks in
      let n = append-length (lock_lines e l.cues) (modes_of e l) in
      omega (arith, n, locks_short l.cues v.locks_in_range, modes_short l, v.locks_at_most)

listing_short_from : (e : ℕ) (ts : List Transaction) → e + length ts < 10 → AllSound ts
    → length (flatten (listing_from e ts)) ≤ 540 * length ts
unfolding listing_from flatten
listing_short_from e [] h v = omega arith
listing_short_from e (t ∷ ts) h v =
    let n = append-length (listing_of e t.locks) (listing_from (suc e) ts) in
    let a = transaction_short e (omega arith) t v.0 in
    let b = listing_short_from (suc e) ts (omega arith) v.1 in
    omega (arith, n, a, b)

pub listing_short : ListingShort
listing_short d v =
    let n = listing_short_from 1 d.transactions (omega (arith, v.eight)) v.transactions_sound in
    omega (arith, n, v.eight)
