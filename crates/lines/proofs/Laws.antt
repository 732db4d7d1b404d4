-- Laws of `up_to` and `lines_of`: a byte more, a line more, a line in front. Other crates' proofs cite them.
-- Assumes nothing.
use mathlib.Core.Path.{◌≡◌, refl, ap, ◌∙◌}
use mathlib.Core.Bool.{Bool, true, false, cond}
use mathlib.Core.List.{List, [], ◌∷◌, ◌++◌}
use Prim.Native.Nat.{ℕ, suc, ◌+◌, ◌-◌, ◌≤◌, ◌<◌}
use native.Mathlib.Omega.{arith}
use native.Mathlib.Numerals.{add-one}
use lib.Dec.{eqb}
use lib.ListN.{length, get_or, take, drop, drop_of_length-le, length-append, length-drop}
use lib.Seq.{drop-cons, drop-drop, take-append_seam, drop-append-add, length-take-le}
use borrow.Author.Tests.{eq-eqb, ne_eqb}
use Rattle.lines.specs.Line.{FirstLine, NoLine, line_to}
use Rattle.lines.specs.Lines.{up_to, onto, lines_of}

-- ---- from a place of a text on: the separator, another byte, the end
pub up_here : (sep : ℕ) (s : List ℕ) (i : ℕ) → i < length s → get_or s i 0 ≡ sep → up_to sep (drop i s) ≡ 0
unfolding up_to
up_here sep s i h e = rw (drop-cons s i 0 h) (simp (eq-eqb _ _ e))

pub up_more : (sep : ℕ) (s : List ℕ) (i : ℕ) → i < length s → (get_or s i 0 ≡ sep → ⊥)
    → up_to sep (drop i s) ≡ suc (up_to sep (drop (i + 1) s))
unfolding up_to
up_more sep s i h n = rw (drop-cons s i 0 h, add-one) (simp (ne_eqb _ _ n))

pub up_end : (sep : ℕ) (s : List ℕ) (i : ℕ) → length s ≤ i → up_to sep (drop i s) ≡ 0
unfolding up_to
up_end sep s i h = rw (drop_of_length-le s h)

up_le-cond : (t : Bool) (n m : ℕ) → n ≤ m → cond t 0 (suc n) ≤ suc m
up_le-cond true n m h = omega arith
up_le-cond false n m h = omega arith

pub up_le : (sep : ℕ) (s : List ℕ) → up_to sep s ≤ length s
unfolding up_to
up_le sep [] = omega arith
up_le sep (b ∷ bs) = up_le-cond (eqb b sep) (up_to sep bs) (length bs) (up_le sep bs)

-- ---- the first line, and the lines behind it
-- a text cut behind its first u bytes and the LF there
abbrev cut : ℕ → List ℕ → List (List ℕ)
cut u s = take u s ∷ lines_of (drop (suc u) s)

lines_cond : (t : Bool) (b : ℕ) (bs : List ℕ) → lines_of bs ≡ cut (up_to 10 bs) bs
    → cond t ([] ∷ lines_of bs) (onto b (lines_of bs)) ≡ cut (cond t 0 (suc (up_to 10 bs))) (b ∷ bs)
unfolding onto
lines_cond true b bs e = refl
lines_cond false b bs e = rw e

pub lines_cons : (b : ℕ) (bs : List ℕ)
    → lines_of (b ∷ bs) ≡ take (up_to 10 (b ∷ bs)) (b ∷ bs) ∷ lines_of (drop (suc (up_to 10 (b ∷ bs))) (b ∷ bs))
unfolding lines_of up_to onto
lines_cons b [] = lines_one (eqb b 10) b
  where
    lines_one : (t : Bool) (b : ℕ) → cond t ([] ∷ []) ((b ∷ []) ∷ []) ≡ cut (cond t 0 1) (b ∷ [])
    lines_one true b = refl
    lines_one false b = refl
lines_cons b (c ∷ cs) = lines_cond (eqb b 10) b (c ∷ cs) (lines_cons c cs)

pub lines_end : (s : List ℕ) (at : ℕ) → length s ≤ at → lines_of (drop at s) ≡ []
unfolding lines_of
lines_end s at h = rw (drop_of_length-le s h)

-- at a place of the text: the line that starts there, and the lines from the next place on
pub lines_next : (s : List ℕ) (at : ℕ) → at < length s
    → lines_of (drop at s) ≡ take (up_to 10 (drop at s)) (drop at s) ∷ lines_of (drop (at + up_to 10 (drop at s) + 1) s)
lines_next s at h =
    let e : at + up_to 10 (drop at s) + 1 ≡ at + suc (up_to 10 (drop at s)) = omega arith in
    rw (e, ← drop-drop (suc (up_to 10 (drop at s))) at s)
    (rw (drop-cons s at 0 h) (lines_cons (get_or s at 0) (drop (suc at) s)))

-- what reading a line at a place finds
pub first_line : (s : List ℕ) (at end : ℕ) → at < length s → end ≡ at + up_to 10 (drop at s)
    → FirstLine s at (line_to at end)
first_line s at end h e =
    let u = up_to 10 (drop at s) in
    let n : end - at ≡ u = omega arith in
    let w : at + u ≤ length s = omega (arith, up_le 10 (drop at s), length-drop at s) in
    let l : length (take u (drop at s)) ≡ u = length-take-le u (drop at s) (up_le 10 (drop at s)) in
    record {
      is_first = rw (n, e) (lines_next s at h);
      place = ap (line_to at) (omega (arith, ap (λ (m : ℕ). length (take m (drop at s))) n));
      within = omega arith;
    }

pub no_line : (s : List ℕ) (at : ℕ) → length s ≤ at → NoLine s at
no_line s at h = record { none = lines_end s at h; at_end = h }

pub ruleset line_rules = (first_line, no_line)

-- ---- a stretch with no separator in it: `up_to sep d ≡ length d`
none_cons : (t : Bool) (b sep : ℕ) (d : List ℕ) → eqb b sep ≡ t → cond t 0 (suc (up_to sep d)) ≡ suc (length d)
    → (eqb b sep ≡ false) × (up_to sep d ≡ length d)
none_cons true b sep d e f = absurd (omega arith)
none_cons false b sep d e f = (e, omega arith)

pub up_append : (sep : ℕ) (d r : List ℕ) → up_to sep d ≡ length d → up_to sep (d ++ sep ∷ r) ≡ length d
unfolding up_to
up_append sep [] r e = simp (eq-eqb sep sep refl)
up_append sep (b ∷ d) r e =
    let n = none_cons (eqb b sep) b sep d refl e in
    rw n.0 (ap suc (up_append sep d r n.1))

pub none_append : (sep : ℕ) (d r : List ℕ) → up_to sep d ≡ length d → up_to sep r ≡ length r
    → up_to sep (d ++ r) ≡ length (d ++ r)
unfolding up_to
none_append sep [] r e f = f
none_append sep (b ∷ d) r e f =
    let n = none_cons (eqb b sep) b sep d refl e in
    rw n.0 (ap suc (none_append sep d r n.1 f))

pub none_one : (sep b : ℕ) → (b ≡ sep → ⊥) → up_to sep (b ∷ []) ≡ 1
unfolding up_to
none_one sep b h = simp (ne_eqb _ _ h)

-- ---- a line with its LF in front of a text
pub lines_append : (d r : List ℕ) → up_to 10 d ≡ length d → lines_of (d ++ 10 ∷ r) ≡ d ∷ lines_of r
lines_append d r e =
    let u : up_to 10 (d ++ 10 ∷ r) ≡ length d = up_append 10 d r e in
    let l : 0 < length (d ++ 10 ∷ r) = omega (arith, length-append d (10 ∷ r)) in
    let z : 0 + up_to 10 (d ++ 10 ∷ r) + 1 ≡ length d + 1 = omega arith in
    lines_next (d ++ 10 ∷ r) 0 l ∙ rw (z, u) (rw (take-append_seam, drop-append-add d (10 ∷ r) 1))
