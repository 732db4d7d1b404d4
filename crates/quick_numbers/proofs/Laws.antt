-- Laws of a short number: the answers of `short_of`, and the digits that stand there. Assumes nothing.
use Rattle.std.proofs.Common.{◌≡◌, ℕ, zero, suc, ◌+◌, ◌<◌, ◌≤◌, Bool, true, false, cond, leb, List, [], ◌∷◌, length, get_or, take, drop, sym, refl, ap, ◌∙◌, arith, length-append, length-drop, length-take, length-take-le, take-take, le-leb, leb-true}
use borrow.Author.Tests.{lt-leb}
use Rattle.std.specs.Prelude.{Option, Some, None}
use Rattle.digits.specs.Digits.{digits_of}
use Rattle.numbers.specs.Number.{number_of}
use Rattle.numbers.specs.Field.{leading}
use Rattle.numbers.proofs.Laws.{number_empty}
use Rattle.numbers.proofs.FieldLaws.{lead_le, number_same}
use Rattle.numbers.proofs.Theorems.{read_is_canonical}
use Rattle.records.specs.Record.{field_text}
use Rattle.quick_numbers.specs.declared.Short.{Short}
use Rattle.lines.specs.Standing.{Stands}
use Rattle.quick_numbers.specs.Short.{short_from, short_of, ShortStands, ShortFits}
use Rattle.lines.proofs.Standing.{one, join}

-- ---- the answers of `short_of`
pub short_text : (most window : ℕ) (l : List ℕ) → length l < window → None ≡ short_of most window l
unfolding short_of
short_text most window l h = rw (lt-leb window (length l) h) refl

pub short_bad : (most window : ℕ) (l t : List ℕ) → leading (take window l) ≡ t → number_of t ≡ None
    → None ≡ short_of most window l
unfolding short_of
short_bad most window l t e m = rw (e, m) (same (leb window (length l)) (leb (length t) most))
  where
    same : (p q : Bool) → ◌≡◌ {A = Option Short} None (cond p (cond q None None) None)
    same false q = refl
    same true false = refl
    same true true = refl

pub short_many : (most window : ℕ) (l t : List ℕ) → leading (take window l) ≡ t → most < length t
    → None ≡ short_of most window l
unfolding short_of
short_many most window l t e h = rw (e, lt-leb (length t) most h) (same (leb window (length l)))
  where
    same : (p : Bool) → ◌≡◌ {A = Option Short} None (cond p None None)
    same false = refl
    same true = refl

pub short_good : (most window : ℕ) (l t : List ℕ) (v n : ℕ) → window ≤ length l → leading (take window l) ≡ t
    → length t ≡ n → n ≤ most → number_of t ≡ Some v → Some (record { value = v; digits = n }) ≡ short_of most window l
unfolding short_of
short_good most window l t v n w e m h x =
    let k : length t ≤ most = omega arith in
    rw (le-leb window (length l) w, e, le-leb (length t) most k, x, m) refl

-- what a caller needs of them
fits_by : (s t : List ℕ) (at most : ℕ) (p q : Bool) (x : Option ℕ) → length t ≤ length (drop at s)
    → number_of t ≡ x → number_of (take (length t) (drop at s)) ≡ x → leb (length t) most ≡ q
    → ShortFits s at most (cond p (cond q (short_from x (length t)) None) None)
fits_by s t at most false q x h m n e = tt
fits_by s t at most true false x h m n e = tt
fits_by s t at most true true None h m n e = tt
fits_by s t at most true true (Some v) h m n e =
    let some : 0 < length t = not_empty (length t) refl in
    record { some = some; few = leb-true (length t) most e; within = omega (arith, length-drop at s); number = n }
  where
    not_empty : (k : ℕ) → length t ≡ k → 0 < k
    not_empty zero z = let none : None ≡ Some v = sym (number_empty t z) ∙ m in absurd (cc)
    not_empty (suc k) z = omega arith

pub short_fits : (s : List ℕ) (at most window : ℕ) → ShortFits s at most (short_of most window (drop at s))
unfolding short_of
short_fits s at most window =
    let l = drop at s in
    let t = leading (take window l) in
    let k = lead_le (take window l) in
    let m = length-take window l in
    let w : length t ≤ window = omega arith in
    fits_by s t at most (leb window (length l)) (leb (length t) most) (number_of t) (omega arith) refl
    (ap number_of (sym (take-take (length t) window l w)) ∙ number_same (take window l) (length t) refl)
    refl

-- ---- what stands there
module _ (s : List ℕ) (at most : ℕ) (r : Short) (f : ShortStands s at most r) where
  pub nine_digits : r.value < 1000000000
  nine_digits = (read_is_canonical (take r.digits (drop at s)) r.value f.number).1

  pub digits_stand : Stands s at (digits_of r.value) × (length (digits_of r.value) ≡ r.digits)
  digits_stand =
      let l : at + r.digits ≤ length s = f.within in
      let c = (read_is_canonical (take r.digits (drop at s)) r.value f.number).0 in
      let m = length-take-le r.digits (drop at s) (omega (arith, length-drop at s)) in
      let e : length (digits_of r.value) ≡ r.digits = ap length (sym c) ∙ m in
      (rw e c, e)

  -- and a byte behind them
  pub field_stands : (b : ℕ) → at + r.digits < length s → get_or s (at + r.digits) 0 ≡ b
      → Stands s at (field_text r.value b) × (length (field_text r.value b) ≡ r.digits + 1)
  field_stands b h e =
      let d = digits_stand in
      let q : at + r.digits ≡ at + length (digits_of r.value) = ap (λ (x : ℕ). at + x) (sym d.1) in (
        join s at (at + r.digits) (digits_of r.value) (b ∷ []) q d.0 (one s (at + r.digits) b h e),
        simp length-append (omega (arith, d.1)),
      )
