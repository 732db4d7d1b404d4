-- Laws of writing into a buffer: several stores in a row, and the two answers of `written_at`. Assumes nothing.
use mathlib.Core.Path.{◌≡◌, refl, sym, ap, ◌∙◌}
use mathlib.Core.Bool.{Bool, true, false}
use mathlib.Core.List.{List, [], ◌∷◌, ◌++◌}
use Prim.Native.Nat.{ℕ, suc, ◌+◌, ◌≤◌, ◌<◌}
use native.Mathlib.Nat.{add-zero}
use native.Mathlib.Omega.{arith}
use lib.Dec.{leb}
use lib.ListN.{length, set}
use lib.Seq.{sets, sets-eq}
use borrow.Author.Tests.{le-leb, lt-leb, leb-true, leb-false}
use Rattle.std.specs.Prelude.{Result, Ok, Err}
use Rattle.refusals.specs.declared.Refusal.{Refusal}
use Rattle.refusals.specs.declared.Refusal.TheVariants.{BufferTooShort}
use Rattle.buffers.specs.Written.{written_at}

pub sets-append : (vs ws l : List ℕ) (i : ℕ) → sets l i (vs ++ ws) ≡ sets (sets l i vs) (i + length vs) ws
sets-append [] ws l i = ap (λ (j : ℕ). sets l j ws) (sym (add-zero i))
sets-append (v ∷ vs) ws l i =
    let e : suc i + length vs ≡ i + suc (length vs) = omega arith in
    sets-append vs ws (set l i v) (suc i) ∙ ap (λ (j : ℕ). sets (sets (set l i v) (suc i) vs) j ws) e

-- the bytes fit: with what the code ensures of its place and its stores, the answer is the definition's
pub written : (buf mid bytes : List ℕ) (at end : ℕ) → at + length bytes ≤ length buf → end ≡ at + length bytes
    → mid ≡ sets buf at bytes → (Ok end, mid) ≡ written_at buf at bytes
unfolding written_at
written buf mid bytes at end h e m = rw (le-leb _ _ h, e, m, sets-eq bytes buf at h)

-- they do not fit
pub too_short : (buf bytes : List ℕ) (at : ℕ) → length buf < at + length bytes
    → (Err BufferTooShort, buf) ≡ written_at buf at bytes
unfolding written_at
too_short buf bytes at h = rw (lt-leb _ _ h)

-- what the test `fits` says of bytes that are counted beforehand
pub room : (b : Bool) (all at n m : ℕ) → b ≡ leb (at + n) all → b ≡ true → n ≡ m → at + m ≤ all
room b all at n m e t q = let h : at + n ≤ all = leb-true _ _ (sym e ∙ t) in omega arith

pub no_room : (b : Bool) (all at n m : ℕ) → b ≡ leb (at + n) all → b ≡ false → n ≡ m → all < at + m
no_room b all at n m e t q = let h : all < at + n = leb-false _ _ (sym e ∙ t) in omega arith

-- a callee wrote where the bytes fit: what its answer was, and what it left
pub written_back : (r : Result ℕ Refusal) (buf mid bytes : List ℕ) (at : ℕ) → at + length bytes ≤ length buf
    → (r, mid) ≡ written_at buf at bytes → (r ≡ Ok (at + length bytes)) × (mid ≡ sets buf at bytes)
written_back r buf mid bytes at h e =
    let w : ◌≡◌ {A = Result ℕ Refusal × List ℕ} (r, mid) (Ok (at + length bytes), sets buf at bytes)
    = e ∙ sym (written buf (sets buf at bytes) bytes at (at + length bytes) h refl refl) in
    (ap (λ p. p.0) w, ap (λ p. p.1) w)

-- the place that a writer answers lies in the buffer
pub within : (buf mid bytes : List ℕ) (r : Result ℕ Refusal) (at end : ℕ) → (r, mid) ≡ written_at buf at bytes
    → r ≡ Ok end → end ≤ length buf
unfolding written_at
within buf mid bytes r at end e q = grind (arith, e, q)
