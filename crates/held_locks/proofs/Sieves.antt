-- The sieve of the cue locks: it is that of its keys, and with a key more that of one key more; a key that does not
-- pass it is not held. Assumes nothing.
use Rattle.std.proofs.Common.{◌≡◌, ℕ, ◌*◌, ◌/◌, ◌%◌, ◌^◌, max, false, List, [], ◌∷◌, ◌++◌, refl, ap, ◌∙◌, sym, arith}
use Rattle.std.proofs.Common.{bit_or}
use Rattle.std.specs.Int.{bit_at, w64}
use Rattle.std.proofs.lemmas.Bool.{ne_eqb}
use Rattle.std.proofs.lemmas.Nat.Bits.{bit_at_or, bit_at-lt, bit_at_set_same}
use Rattle.tables.specs.Table.{member_of}
use Rattle.held_locks.specs.Sieve.{sieve_bit, sieve_with, sieve_of, passes}
use lib.Pow.{shl_exact}
use native.Mathlib.Nat.{one-mul}
use borrow.Author.Tests.{eqb-false}

-- the code's shift makes the key's bit
pub bit_made : (k r : ℕ) → r ≡ sieve_bit k → 1 * 2 ^ r % 2 ^ 64 ≡ 2 ^ sieve_bit k
bit_made k r e = rw e (shl_exact 1 (sieve_bit k) 64 (omega arith) (omega arith) ∙ one-mul (2 ^ sieve_bit k))

-- the sieve has the bit of this key
abbrev HasBit : ℕ → ℕ → Type 0
HasBit sieve k = sieve / 2 ^ sieve_bit k % 2 ≡ 1

set_here : (s k : ℕ) → HasBit (bit_or s (2 ^ sieve_bit k)) k
set_here s k =
    let made : 1 * 2 ^ sieve_bit k % 2 ^ 64 ≡ 2 ^ sieve_bit k = bit_made k (sieve_bit k) refl in
    ap (λ (m : ℕ). bit_at (bit_or s m) (sieve_bit k)) (sym made) ∙ bit_at_set_same w64 s (sieve_bit k) (omega arith)

-- a bit that is set stays set
stays : (s k : ℕ) (l : List ℕ) → HasBit s k → HasBit (sieve_with s l) k
unfolding sieve_with
stays s k [] h = h
stays s k (x ∷ l) h =
    let m = 2 ^ sieve_bit x in
    let has : bit_at s (sieve_bit k) ≡ 1 = h in
    let both : max (bit_at s (sieve_bit k)) (bit_at m (sieve_bit k)) ≡ 1 = omega (arith, has, bit_at-lt m (sieve_bit k)) in
    stays (bit_or s m) k l (bit_at_or s m (sieve_bit k) ∙ both)

-- a key whose bit the sieve has not is none of its keys
kept_out : (s k : ℕ) (l : List ℕ) → passes (sieve_with s l) k ≡ false → member_of k l ≡ false
unfolding sieve_with member_of
kept_out s k [] n = refl
kept_out s k (x ∷ l) n =
    let t = bit_or s (2 ^ sieve_bit x) in
    let has : HasBit (sieve_with t l) x = stays t x l (set_here s x) in
    let other : x ≡ k → ⊥ = λ e. eqb-false _ 1 n (sym (ap (λ (j : ℕ). sieve_with t l / 2 ^ sieve_bit j % 2) e) ∙ has) in
    rw (ne_eqb x k other) (kept_out t k l n)

pub sieved_out : (s k : ℕ) (l : List ℕ) → s ≡ sieve_of l → passes s k ≡ false → member_of k l ≡ false
sieved_out s k l e n = kept_out 0 k l (ap (λ (t : ℕ). passes t k) (sym e) ∙ n)

pub sieve_passes : (s k : ℕ) (l : List ℕ) → s ≡ sieve_of l → passes s k ≡ passes (sieve_of l) k
sieve_passes s k l e = ap (λ (t : ℕ). passes t k) e

-- all the keys and one more
with_one : (s k : ℕ) (l : List ℕ) → sieve_with s (l ++ k ∷ []) ≡ bit_or (sieve_with s l) (2 ^ sieve_bit k)
unfolding sieve_with
with_one s k [] = refl
with_one s k (x ∷ l) = with_one (bit_or s (2 ^ sieve_bit x)) k l

pub sieve_held : (s t k : ℕ) (l m : List ℕ) → s ≡ sieve_of l → t ≡ bit_or s (2 ^ sieve_bit k) → m ≡ l ++ k ∷ []
    → t ≡ sieve_of m
sieve_held s t k l m h e f = e ∙ (ap (λ (s : ℕ). bit_or s (2 ^ sieve_bit k)) h ∙ (sym (with_one 0 k l) ∙ ap sieve_of (sym f)))

pub sieve_none : (l : List ℕ) → l ≡ [] → 0 ≡ sieve_of l
unfolding sieve_with
sieve_none l e = rw e refl

pub ruleset sieve_rules = (sieved_out, sieve_passes, sieve_held, sieve_none)
