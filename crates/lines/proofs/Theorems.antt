-- The theorems that `specs/Theorems.antt` states.
-- Assumes nothing.
use mathlib.Core.Path.{◌≡◌, refl, sym, ap, ◌∙◌}
use mathlib.Core.Bool.{Bool, true, false, cond}
use mathlib.Core.List.Memᴰ
use mathlib.Core.List.{List, [], ◌∷◌, Memᴰ}
use mathlib.Core.Logic.{⊎_elim}
use Rattle.std.specs.Prelude.{Option, Some}
use Prim.Native.Nat.{ℕ, zero, suc, ◌+◌, ◌-◌, ◌≤◌}
use native.Mathlib.Nat.{add-sub_cancel_left}
use native.Mathlib.Omega.{arith}
use lib.Dec.{eqb}
use lib.ListN.{length, take, drop}
use borrow.Author.Tests.{lt-ltb, le-ltb, eqb-true, eqb-false}
use Rattle.lines.specs.Lines.{up_to, onto, lines_of}
use Rattle.lines.specs.Line.{line_to, line_at}
use Rattle.lines.specs.Theorems.{joined, closed, LinesJoined, LinesWithoutLF, read_on, read_from, LinesRead}
use Rattle.lines.specs.declared.Line.{Line}
use Rattle.std.proofs.lemmas.Bool.{cases_lt}
use Rattle.lines.proofs.Laws.{lines_cons, lines_next, lines_end}

-- ---- the lines joined again
joined-onto : (b : ℕ) (l : List ℕ) (ls rest : List (List ℕ)) → rest ≡ l ∷ ls → joined (onto b rest) ≡ b ∷ joined rest
unfolding joined onto
joined-onto b l ls rest e = rw e

joined-cond : (t : Bool) (b : ℕ) (rest : List (List ℕ)) → eqb b 10 ≡ t → joined (onto b rest) ≡ b ∷ joined rest
    → joined (cond t ([] ∷ rest) (onto b rest)) ≡ b ∷ joined rest
unfolding joined
joined-cond true b rest e h = rw (eqb-true b 10 e)
joined-cond false b rest e h = h

joined_one : (t : Bool) (b : ℕ) → eqb b 10 ≡ t
    → joined (cond t ([] ∷ []) (onto b [])) ≡ cond t (b ∷ []) (b ∷ 10 ∷ [])
unfolding joined onto
joined_one true b e = rw (eqb-true b 10 e)
joined_one false b e = refl

pub lines_joined : LinesJoined
unfolding lines_of closed joined
lines_joined [] = refl
lines_joined (b ∷ []) = joined_one (eqb b 10) b refl
lines_joined (b ∷ c ∷ bs) =
    joined-cond (eqb b 10) b (lines_of (c ∷ bs)) refl (joined-onto b _ _ (lines_of (c ∷ bs)) (lines_cons c bs))
    ∙ ap (λ (r : List ℕ). b ∷ r) (lines_joined (c ∷ bs))

-- ---- no line holds an LF
abbrev NoLF : List (List ℕ) → Type 0
NoLF ls = (l : List ℕ) → Memᴰ l ls → Memᴰ 10 l → ⊥

front : (b : ℕ) (l : List ℕ) → (b ≡ 10 → ⊥) → (Memᴰ 10 l → ⊥) → Memᴰ 10 (b ∷ l) → ⊥
front b l n h m = ⊎_elim (λ e. n (sym e)) h (Memᴰ.cases_cons m)

without_onto : (b : ℕ) (ls : List (List ℕ)) → (b ≡ 10 → ⊥) → NoLF ls → NoLF (onto b ls)
unfolding onto
without_onto b [] n h l m k =
    ⊎_elim (λ e. front b [] n Memᴰ.not-nil (rw e at k)) Memᴰ.not-nil (Memᴰ.cases_cons m)
without_onto b (l₀ ∷ ls) n h l m k =
    ⊎_elim
    (λ e. front b l₀ n (h l₀ (Memᴰ.head refl)) (rw e at k))
    (λ i. h l (Memᴰ.tail i) k)
    (Memᴰ.cases_cons m)

without_cond : (t : Bool) (b : ℕ) (ls : List (List ℕ)) → eqb b 10 ≡ t → NoLF ls → NoLF (cond t ([] ∷ ls) (onto b ls))
without_cond true b ls e h l m k =
    ⊎_elim (λ q. Memᴰ.not-nil (rw q at k)) (λ i. h l i k) (Memᴰ.cases_cons m)
without_cond false b ls e h l m k = without_onto b ls (eqb-false b 10 e) h l m k

pub lines_without_lf : LinesWithoutLF
unfolding lines_of
lines_without_lf [] l m k = Memᴰ.not-nil m
lines_without_lf (b ∷ bs) l m k = without_cond (eqb b 10) b (lines_of bs) refl (lines_without_lf bs) l m k

-- ---- reading line after line
read_all : (s : List ℕ) (reads at : ℕ) → length s ≤ at + reads → read_from reads s at ≡ lines_of (drop at s)
unfolding read_from
read_all s zero at h = sym (lines_end s at (omega arith))
read_all s (suc n) at h =
    ⊎_elim
    (λ i.
    let u = up_to 10 (drop at s) in
    let line : line_at s at ≡ Some (line_to at (at + u)) = rw (lt-ltb at (length s) i) in
    let bytes : take (at + u - at) (drop at s) ≡ take u (drop at s) = rw (add-sub_cancel_left at u) in
    ap (λ (l : Option Line). read_on s l (read_from n s)) line
    ∙ (ap (λ (l : List ℕ). l ∷ read_from n s (at + u + 1)) bytes
    ∙ (ap (λ (ls : List (List ℕ)). take u (drop at s) ∷ ls) (read_all s n (at + u + 1) (omega arith))
    ∙ sym (lines_next s at i))))
    (λ i. rw (le-ltb at (length s) i, lines_end s at i))
    (cases_lt at (length s))

pub lines_read : LinesRead
lines_read s reads h = read_all s reads 0 (omega arith)
