-- The theorems that `specs/Theorems.antt` states.
-- Assumes nothing.
use mathlib.Core.Path.{◌≡◌, refl, sym, ap, ◌∙◌}
use mathlib.Core.Bool.{Bool, true, false, cond}
use mathlib.Core.List.{List, [], ◌∷◌, ◌++◌}
use mathlib.Core.Logic.{⊎_elim}
use Prim.Native.Nat.{ℕ, zero, suc, ◌+◌, ◌-◌, ◌≤◌, ◌<◌}
use native.Mathlib.Nat.{sub_self, add-sub_cancel_left}
use native.Mathlib.Omega.{arith}
use lib.Dec.{eqb}
use lib.ListN.{length, get_or, take, drop, length-append, get_or-append}
use lib.Seq.{get_or-append-add, take-append_seam, drop-append-add, take-take}
use Rattle.std.proofs.lemmas.Bool.{cases_lt}
use Rattle.std.proofs.lemmas.List.{drop-take, get_or_past}
use denote.Ref.{Bor}
use Rattle.lines.specs.Lines.{lines_of}
use Rattle.lines.specs.Theorems.{joined, closed}
use Rattle.lines.proofs.Theorems.{lines_joined}
use Rattle.numbered_lines.specs.Numbered.{Stretch, seek, in_start, in_steps, numbered}
use Rattle.numbered_lines.specs.Theorems.{start_of, end_of, NumberedBytes, NumberedPlaces, LineWithin}
use Rattle.std.specs.Prelude.{Ok, Err}
use Rattle.lines.specs.Line.{line_to}

-- ---- its place
-- the place of a line, and how many are left to count where there are too few
seek_found : (at : ℕ) (ls : List (List ℕ)) (k : ℕ) → k < length ls
    → seek at ls k
    ≡ Ok (line_to (at + length (joined (take k ls))) (at + (length (joined (take k ls)) + length (get_or ls k []))))
unfolding seek joined
seek_found at [] k h = absurd (omega arith)
seek_found at (l ∷ ls) zero h =
    let a : at ≡ at + 0 = omega arith in
    let e : at + length l ≡ at + (0 + length l) = omega arith in
    cc
seek_found at (l ∷ ls) (suc k) h =
    let j = joined (take k ls) in
    let g = length (get_or ls k []) in
    let n = length-append l (10 ∷ j) in
    let a : at + length l + 1 + length j ≡ at + length (l ++ 10 ∷ j) = omega arith in
    let e : at + length l + 1 + (length j + g) ≡ at + (length (l ++ 10 ∷ j) + g) = omega arith in
    cc (seek_found (at + length l + 1) ls k (omega arith))

seek_left : (at : ℕ) (ls : List (List ℕ)) (k : ℕ) → seek at ls (length ls + k) ≡ Err k
unfolding seek
seek_left at [] k = let e : 0 + k ≡ k = omega arith in ap Err e
seek_left at (l ∷ ls) k =
    let e : suc (length ls) + k ≡ suc (length ls + k) = omega arith in
    ap (seek at (l ∷ ls)) e ∙ seek_left (at + length l + 1) ls k

seek_line : (s : List ℕ) (k : ℕ) → k < length (lines_of s) → seek 0 (lines_of s) k ≡ Ok (line_to (start_of s k) (end_of s k))
seek_line s k h =
    let a : 0 + start_of s k ≡ start_of s k = omega arith in
    let e : 0 + end_of s k ≡ end_of s k = omega arith in
    cc (seek_found 0 (lines_of s) k h)

pub numbered_places : NumberedPlaces
numbered_places start steps = record {
  in_start = λ k h. ap (in_start start steps) (seek_line start.now k h);
  in_steps = λ k h.
      ap (in_start start steps) (seek_left 0 (lines_of start.now) k) ∙ ap (in_steps steps) (seek_line steps.now k h);
  past_end = λ k.
      ap (in_start start steps) (seek_left 0 (lines_of start.now) (length (lines_of steps.now) + k))
      ∙ ap (in_steps steps) (seek_left 0 (lines_of steps.now) k);
  at_zero = refl;
}

-- ---- and it lies within its text
closed_one : (t : Bool) (b : ℕ) → length (cond t (b ∷ []) (b ∷ 10 ∷ [])) ≤ 2
closed_one true b = omega arith
closed_one false b = omega arith

closed-length : (s : List ℕ) → length (closed s) ≤ suc (length s)
unfolding closed
closed-length [] = omega arith
closed-length (b ∷ []) = closed_one (eqb b 10) b
closed-length (b ∷ c ∷ bs) =
    let i : length (closed (c ∷ bs)) ≤ suc (length (c ∷ bs)) = closed-length (c ∷ bs) in omega arith

before_end : (ls : List (List ℕ)) (k : ℕ) → k < length ls
    → length (joined (take k ls)) + length (get_or ls k []) < length (joined ls)
unfolding joined
before_end [] k h = absurd (omega arith)
before_end (l ∷ ls) zero h = omega (arith, length-append l (10 ∷ joined ls))
before_end (l ∷ ls) (suc k) h =
    let n = length-append l (10 ∷ joined (take k ls)) in
    let m = length-append l (10 ∷ joined ls) in
    let i = before_end ls k (omega arith) in
    omega arith

pub line_within : LineWithin
line_within s k h =
    omega (arith, closed-length s, before_end (lines_of s) k h, ap length (lines_joined s))

-- ---- and its bytes
joined_at : (ls : List (List ℕ)) (k : ℕ) → k < length ls
    → take (length (get_or ls k [])) (drop (length (joined (take k ls))) (joined ls)) ≡ get_or ls k []
unfolding joined
joined_at [] k h = absurd (omega arith)
joined_at (l ∷ ls) zero h = take-append_seam l (10 ∷ joined ls)
joined_at (l ∷ ls) (suc k) h =
    let j = joined (take k ls) in
    let n : length (l ++ 10 ∷ j) ≡ length l + suc (length j) = length-append l (10 ∷ j) in
    rw (n, drop-append-add l (10 ∷ joined ls) (suc (length j))) (joined_at ls k (omega arith))

closed_front : (s : List ℕ) → take (length s) (closed s) ≡ s
unfolding closed
closed_front [] = refl
closed_front (b ∷ []) = by_test (eqb b 10)
  where
    by_test : (t : Bool) → take 1 (cond t (b ∷ []) (b ∷ 10 ∷ [])) ≡ b ∷ []
    by_test true = refl
    by_test false = refl
closed_front (b ∷ c ∷ bs) = ap (λ (l : List ℕ). b ∷ l) (closed_front (c ∷ bs))

bytes_of : (s : List ℕ) (k : ℕ) → k < length (lines_of s)
    → take (end_of s k - start_of s k) (drop (start_of s k) s) ≡ get_or (lines_of s) k []
bytes_of s k h =
    let i = start_of s k in
    let n = length (get_or (lines_of s) k []) in
    let j = joined (lines_of s) in
    let all : s ≡ take (i + (length s - i)) j =
    sym (ap (λ (m : ℕ). take m j) (omega (arith, line_within s k h)) ∙ (ap (take (length s)) (lines_joined s) ∙ closed_front s)) in
    ap (λ (t : List ℕ). take (i + n - i) (drop i t)) all
    ∙ rw (drop-take i (length s - i) j, add-sub_cancel_left i n)
    (take-take n (length s - i) (drop i j) (omega (arith, line_within s k h)) ∙ joined_at (lines_of s) k h)

steps_bytes : (start steps : Bor (List ℕ)) (j : ℕ)
    → (numbered start steps (suc (length (lines_of start.now) + j))).1 ≡ get_or (lines_of steps.now) j []
steps_bytes start steps j = ⊎_elim here past (cases_lt j (length (lines_of steps.now)))
  where
    here : j < length (lines_of steps.now) → (numbered start steps (suc (length (lines_of start.now) + j))).1 ≡ get_or (lines_of steps.now) j []
    here h = ap (λ (x : Stretch). x.1) ((numbered_places start steps).in_steps j h) ∙ bytes_of steps.now j h

    past : length (lines_of steps.now) ≤ j → (numbered start steps (suc (length (lines_of start.now) + j))).1 ≡ get_or (lines_of steps.now) j []
    past h =
        let q : j ≡ length (lines_of steps.now) + (j - length (lines_of steps.now)) = omega arith in
        ap (λ (x : ℕ). (numbered start steps (suc (length (lines_of start.now) + x))).1) q
        ∙ (ap (λ (x : Stretch). x.1) ((numbered_places start steps).past_end (j - length (lines_of steps.now)))
        ∙ (rw sub_self (sym (get_or_past (lines_of steps.now) j [] h))))

pub numbered_bytes : NumberedBytes
numbered_bytes start steps k = ⊎_elim here later (cases_lt k (length (lines_of start.now)))
  where
    here : k < length (lines_of start.now) → (numbered start steps (suc k)).1 ≡ get_or (lines_of start.now ++ lines_of steps.now) k []
    here h =
        ap (λ (x : Stretch). x.1) ((numbered_places start steps).in_start k h)
        ∙ (bytes_of start.now k h ∙ sym (get_or-append (lines_of start.now) (lines_of steps.now) [] k h))

    later : length (lines_of start.now) ≤ k → (numbered start steps (suc k)).1 ≡ get_or (lines_of start.now ++ lines_of steps.now) k []
    later h =
        let j = k - length (lines_of start.now) in
        let q : k ≡ length (lines_of start.now) + j = omega arith in
        rw q (steps_bytes start steps j ∙ sym (get_or-append-add (lines_of start.now) (lines_of steps.now) j []))
