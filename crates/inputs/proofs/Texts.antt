-- Texts, line by line: an induction. Assumes nothing.
use mathlib.Core.Path.{◌≡◌, refl, sym, ap, ◌∙◌, subst}
use mathlib.Core.Bool.{Bool, true, false}
use mathlib.Core.List.{List, [], ◌∷◌, ◌++◌}
use Prim.Native.Nat.{ℕ, zero, suc, ◌≤◌, ◌<◌}
use native.Mathlib.Omega.{arith}
use lib.Dec.{eqb}
use lib.ListN.{length, drop_of_length-le, length-append}
use lib.Seq.{take_all}
use borrow.Author.Tests.{eqb-true}
use Rattle.lines.specs.Lines.{up_to, lines_of}
use Rattle.lines.proofs.Laws.{lines_cons}

-- a line with its LF and what stands behind it; or a line that no LF ends
pub data Cut (s : List ℕ) : Type 0 where
  ended : (l r : List ℕ) → up_to 10 l ≡ length l → s ≡ l ++ 10 ∷ r → Cut s
  open_ended : up_to 10 s ≡ length s → Cut s

pub cut : (s : List ℕ) → Cut s
unfolding up_to
cut [] = open_ended refl
cut (b ∷ bs) = by_test (eqb b 10) refl (cut bs)
  where
    by_test : (t : Bool) → eqb b 10 ≡ t → Cut bs → Cut (b ∷ bs)
    by_test true e c = ended [] bs refl (ap (λ (x : ℕ). x ∷ bs) (eqb-true b 10 e))
    by_test false e (ended l r u q) = ended (b ∷ l) r (rw e (ap suc u)) (ap (λ (x : List ℕ). b ∷ x) q)
    by_test false e (open_ended u) = open_ended (rw e (ap suc u))

-- what holds of the empty text, of a line that no LF ends, and with a line in front, holds of every text
module _ (P : List ℕ → Type 0) (none : P [])
    (one : (s : List ℕ) → 0 < length s → up_to 10 s ≡ length s → P s)
    (more : (l r : List ℕ) → up_to 10 l ≡ length l → P r → P (l ++ 10 ∷ r)) where
  up_to_lem : (n : ℕ) (s : List ℕ) → length s ≤ n → P s
  up_to_lem zero [] h = none
  up_to_lem zero (b ∷ bs) h = absurd (omega arith)
  up_to_lem (suc n) [] h = none
  up_to_lem (suc n) (b ∷ bs) h = by_cut (cut (b ∷ bs)) (λ r k. up_to_lem n r k)
    where
      by_cut : Cut (b ∷ bs) → ((r : List ℕ) → length r ≤ n → P r) → P (b ∷ bs)
      by_cut (ended l r u q) hyp =
          let k : length r ≤ n = omega (arith, ap length q, length-append l (10 ∷ r)) in
          subst P (sym q) (more l r u (hyp r k))
      by_cut (open_ended u) hyp = one (b ∷ bs) (omega arith) u

  pub by_lines : (s : List ℕ) → P s
  by_lines s = up_to_lem (length s) s (omega arith)

-- a line that no LF ends is the only one
pub lines_one : (s : List ℕ) → 0 < length s → up_to 10 s ≡ length s → lines_of s ≡ s ∷ []
unfolding lines_of
lines_one [] h u = absurd (omega arith)
lines_one (b ∷ bs) h u =
    let n : length (b ∷ bs) ≤ suc (length (b ∷ bs)) = omega arith in
    lines_cons b bs
    ∙ rw (u, take_all (length (b ∷ bs)) (b ∷ bs) (omega arith), drop_of_length-le (b ∷ bs) n)
