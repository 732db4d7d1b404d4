-- Laws of the place of the first line `steps`, and of the two texts that it divides. Assumes nothing.
use Rattle.std.proofs.Common.{◌≡◌, ℕ, suc, ◌+◌, ◌<◌, Bool, true, false, List, [], ◌∷◌, ◌++◌, length, take, drop}
use Rattle.std.proofs.Common.{refl, sym, ap, ◌∙◌, arith, min}
use lib.Seq.{take_all, take-append-add, drop-append-add}
use Rattle.std.proofs.lemmas.List.{take_min, drop_min}
use Rattle.inputs.proofs.Texts.{by_lines, lines_one}
use Rattle.std.proofs.lemmas.Slice.Eq.{bytes_eq-Decides}
use Rattle.lines.specs.Ascii.{bytes}
use Rattle.lines.specs.Lines.{up_to, lines_of}
use Rattle.lines.proofs.Laws.{lines_append, lines_end}
use Rattle.inputs.specs.Division.{is_steps, steps_place, start_text, step_list}
use Rattle.inputs.specs.Theorems.{before, behind, DividedAtSteps}

-- ---- one line
pub steps_none : steps_place [] ≡ 0
unfolding steps_place
steps_none = refl

pub steps_here : (l : List ℕ) (ls : List (List ℕ)) → is_steps l ≡ true → steps_place (l ∷ ls) ≡ 0
unfolding steps_place
steps_here l ls e = rw e

pub steps_later : (l : List ℕ) (ls : List (List ℕ)) → is_steps l ≡ false → steps_place (l ∷ ls) ≡ length l + 1 + steps_place ls
unfolding steps_place
steps_later l ls e = rw e

pub ruleset search_rules = (steps_none, steps_here, steps_later)

-- ---- the two texts, as the code cuts them out
pub start_part : (s : List ℕ) (at : ℕ) → at ≡ min (steps_place (lines_of s)) (length s) → take at s ≡ start_text s
unfolding start_text
start_part s at e = rw e (take_min (steps_place (lines_of s)) s)

pub list_part : (s : List ℕ) (at from : ℕ) → at ≡ min (steps_place (lines_of s)) (length s)
    → from ≡ min (at + 6) (length s) → drop from s ≡ step_list s
unfolding step_list
list_part s at from ea ef =
    let place = steps_place (lines_of s) in
    let e : from ≡ min (place + 6) (length s) = omega arith in
    rw e (drop_min (place + 6) s)

-- ---- the lines before and behind
before_here : (l : List ℕ) (ls : List (List ℕ)) → is_steps l ≡ true → (before (l ∷ ls) ≡ []) × (behind (l ∷ ls) ≡ ls)
unfolding before behind
before_here l ls e = (rw e, rw e)

before_later : (l : List ℕ) (ls : List (List ℕ)) → is_steps l ≡ false
    → (before (l ∷ ls) ≡ l ∷ before ls) × (behind (l ∷ ls) ≡ behind ls)
unfolding before behind
before_later l ls e = (rw e, rw e)

-- ---- the lines of the two texts
-- a text of these lines, divided at the place p
abbrev DividedAt : List ℕ → List (List ℕ) → ℕ → Type 0
DividedAt s ls p = (lines_of (take p s) ≡ before ls) × (lines_of (drop (p + 6) s) ≡ behind ls)

abbrev DividesAs : List ℕ → Type 0
DividesAs s = DividedAt s (lines_of s) (steps_place (lines_of s))

nothing : (before [] ≡ []) × (behind [] ≡ []) × (steps_place [] ≡ 0)
unfolding before behind steps_place
nothing = (refl, refl, refl)

steps_length : (l : List ℕ) → is_steps l ≡ true → length l ≡ 5
steps_length l t = ap length ((bytes_eq-Decides l (bytes "steps")).0 t)

divides_none : DividesAs []
unfolding lines_of steps_place before behind
divides_none = (refl, refl)

divides_one : (s : List ℕ) → 0 < length s → up_to 10 s ≡ length s → DividesAs s
divides_one s h u = rw (lines_one s h u) (by_test (is_steps s) refl)
  where
    by_test : (t : Bool) → is_steps s ≡ t → DividedAt s (s ∷ []) (steps_place (s ∷ []))
    by_test true t =
        let b = before_here s [] t in
        let n = steps_length s t in
        rw (steps_here s [] t) (lines_end [] 0 (omega arith) ∙ sym b.0, lines_end s 6 (omega arith) ∙ sym b.1)
    by_test false t =
        let b = before_later s [] t in
        let p : steps_place (s ∷ []) ≡ length s + 1 = omega (arith, steps_later s [] t, nothing.2) in
        rw p (
          ap lines_of (take_all (length s + 1) s (omega arith))
              ∙ (lines_one s h u ∙ (ap (λ (x : List (List ℕ)). s ∷ x) (sym nothing.0) ∙ sym b.0)),
          lines_end s (length s + 1 + 6) (omega arith) ∙ (sym nothing.1 ∙ sym b.1),
        )

divides_more : (l r : List ℕ) → up_to 10 l ≡ length l → DividesAs r → DividesAs (l ++ 10 ∷ r)
divides_more l r u hyp = rw (lines_append l r u) (by_test (is_steps l) refl)
  where
    by_test : (t : Bool) → is_steps l ≡ t
        → DividedAt (l ++ 10 ∷ r) (l ∷ lines_of r) (steps_place (l ∷ lines_of r))
    by_test true t =
        let b = before_here l (lines_of r) t in
        let n : 0 + 6 ≡ length l + 1 = omega (arith, steps_length l t) in
        rw (steps_here l (lines_of r) t) (
          lines_end [] 0 (omega arith) ∙ sym b.0,
          ap (λ (x : ℕ). lines_of (drop x (l ++ 10 ∷ r))) n
              ∙ (ap lines_of (drop-append-add l (10 ∷ r) 1) ∙ sym b.1),
        )
    by_test false t =
        let b = before_later l (lines_of r) t in
        let p = steps_place (lines_of r) in
        let n : steps_place (l ∷ lines_of r) ≡ length l + suc p = omega (arith, steps_later l (lines_of r) t) in
        let m : length l + suc p + 6 ≡ length l + suc (p + 6) = omega arith in
        rw n (
          ap lines_of (take-append-add l (10 ∷ r) (suc p))
              ∙ (lines_append l (take p r) u
              ∙ (ap (λ (x : List (List ℕ)). l ∷ x) hyp.0 ∙ sym b.0)),
          ap (λ (x : ℕ). lines_of (drop x (l ++ 10 ∷ r))) m
              ∙ (ap lines_of (drop-append-add l (10 ∷ r) (suc (p + 6))) ∙ (hyp.1 ∙ sym b.1)),
        )

pub divided_at_steps : DividedAtSteps
unfolding start_text step_list
divided_at_steps s =
    let d = by_lines DividesAs divides_none divides_one divides_more s in
    record { start = d.0; steps = d.1 }
