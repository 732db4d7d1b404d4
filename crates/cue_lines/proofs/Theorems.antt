-- A cue's line stands for that cue and is its only line. Assumes nothing.
use mathlib.Core.Path.{◌≡◌, refl, sym, ap, ◌∙◌}
use mathlib.Core.Bool.{Bool, true, false, cond}
use mathlib.Core.List.{List, [], ◌∷◌, ◌++◌}
use mathlib.Core.Logic.{⊎_elim}
use Prim.Native.Nat.{ℕ, suc, ◌+◌, ◌<◌}
use native.Mathlib.Numerals.{add-one}
use native.Mathlib.Omega.{arith}
use lib.Dec.{eqb}
use lib.ListN.{length, take, drop}
use lib.Seq.{take-append_seam, drop-append-add}
use borrow.Author.Tests.{eqb-true}
use Rattle.lines.specs.Lines.{up_to}
use Rattle.std.proofs.lemmas.Bool.{cases_lt}
use Rattle.lines.proofs.Laws.{up_le, up_append}
use Rattle.digits.specs.Digits.{digits_of}
use Rattle.numbers.specs.Field.{field, others}
use Rattle.numbers.specs.Number.{number_of}
use Rattle.std.specs.Prelude.{Option, Some, None, Result, Ok, Err}
use Rattle.digits.proofs.Laws.{none_digits}
use Rattle.numbers.proofs.Theorems.{write_then_read, read_is_canonical}
use Rattle.refusals.specs.declared.Refusal.{Refusal}
use Rattle.refusals.specs.declared.Refusal.TheVariants.{CueOutOfRange}
use Rattle.cues.specs.declared.Cue.{Cue}
use Rattle.cues.specs.Cue.{in_range, InRange}
use Rattle.cues.proofs.Laws.{bounds}
use Rattle.cue_texts.proofs.Theorems.{body_fields}
use Rattle.cues.specs.declared.CueNumbers.{CueNumbers}
use Rattle.cue_lines.specs.CueLine.{three_numbers, fields_of, cue_of_fields, cue_line_of}
use Rattle.cue_lines.specs.Theorems.{CueWriteThenRead, CueReadIsCanonical}
use Rattle.cue_lines.proofs.Laws.{numbers_of, no_comma, one_comma}

-- ---- written, then read
field_of : (d r : List ℕ) → up_to 44 d ≡ length d → field (d ++ 44 ∷ r) ≡ d
field_of d r e = rw (up_append 44 d r e) (take-append_seam d (44 ∷ r))

others_of : (d r : List ℕ) → up_to 44 d ≡ length d → others (d ++ 44 ∷ r) ≡ r
others_of d r e = rw (up_append 44 d r e) (drop-append-add d (44 ∷ r) 1)

fields_read : (t m p : ℕ) → t < 1000000000 → m < 1000000000 → p < 1000000000
    → fields_of (digits_of t ++ 44 ∷ (digits_of m ++ 44 ∷ digits_of p)) ≡ numbers_of t m p
unfolding fields_of
fields_read t m p ht hm hp =
    let R = digits_of m ++ 44 ∷ digits_of p in
    let L = digits_of t ++ 44 ∷ R in
    let nt = none_digits 44 19 t (omega arith) in
    let nm = none_digits 44 19 m (omega arith) in
    let o : others L ≡ R = others_of (digits_of t) R nt in
    let vt : number_of (field L) ≡ Some t = ap number_of (field_of (digits_of t) R nt) ∙ write_then_read t ht in
    let vm : number_of (field (others L)) ≡ Some m =
    ap (λ (l : List ℕ). number_of (field l)) o
    ∙ (ap number_of (field_of (digits_of m) (digits_of p) nm) ∙ write_then_read m hm) in
    let vp : number_of (others (others L)) ≡ Some p =
    ap (λ (l : List ℕ). number_of (others l)) o
    ∙ (ap number_of (others_of (digits_of m) (digits_of p) nm) ∙ write_then_read p hp) in
    rw (vt, vm, vp)

pub cue_write_then_read : CueWriteThenRead
cue_write_then_read c r =
    let b = bounds c.time c.«module» c.pin r in
    ap cue_line_of (body_fields c)
    ∙ (ap cue_of_fields (fields_read c.time c.«module» c.pin (omega arith) (omega arith) (omega arith)) ∙ rw r)

-- ---- read, then written
-- a line with a separator is what stands before it, the separator, and what stands behind it
split_at : (sep : ℕ) (l : List ℕ) → up_to sep l < length l
    → l ≡ take (up_to sep l) l ++ sep ∷ drop (up_to sep l + 1) l
unfolding up_to
split_at sep [] h = absurd (omega arith)
split_at sep (b ∷ bs) h = by_test (eqb b sep) refl h (split_at sep bs)
  where
    by_test : (t : Bool) → eqb b sep ≡ t → cond t 0 (suc (up_to sep bs)) < suc (length bs)
        → (up_to sep bs < length bs → bs ≡ take (up_to sep bs) bs ++ sep ∷ drop (up_to sep bs + 1) bs)
        → b ∷ bs
        ≡ take (cond t 0 (suc (up_to sep bs))) (b ∷ bs) ++ sep ∷ drop (cond t 0 (suc (up_to sep bs)) + 1) (b ∷ bs)
    by_test true e g more = ap (λ (x : ℕ). x ∷ bs) (eqb-true b sep e)
    by_test false e g more = rw add-one (ap (λ (x : List ℕ). b ∷ x) (more (omega arith) ∙ rw add-one))

three_values : (x y z : Option ℕ) (t m p : ℕ) → three_numbers x y z ≡ numbers_of t m p
    → (x ≡ Some t) × (y ≡ Some m) × (z ≡ Some p)
three_values None y z t m p e = let w : ◌≡◌ {A = ℕ} 0 1 = cc in absurd (omega arith)
three_values (Some a) None z t m p e = let w : ◌≡◌ {A = ℕ} 0 1 = cc in absurd (omega arith)
three_values (Some a) (Some b) None t m p e = let w : ◌≡◌ {A = ℕ} 0 1 = cc in absurd (omega arith)
three_values (Some a) (Some b) (Some c) t m p e =
    let n : CueNumbers = record { time = a; «module» = b; pin = c } in
    let f : n ≡ record { time = t; «module» = m; pin = p } = cc in
    (ap (λ (x : CueNumbers). Some x.time) f, ap (λ (x : CueNumbers). Some x.«module») f, ap (λ (x : CueNumbers). Some x.pin) f)

-- where numbers are read, there is a comma in the line, and another behind it
has_comma : (l : List ℕ) (t m p : ℕ) (s : List ℕ) → (up_to 44 s ≡ length s → fields_of l ≡ None)
    → fields_of l ≡ numbers_of t m p → up_to 44 s < length s
has_comma l t m p s none e =
    ⊎_elim (λ h. h) (λ h. absurd (without (none (omega (arith, up_le 44 s))))) (cases_lt (up_to 44 s) (length s))
  where
    without : fields_of l ≡ None → ⊥
    without f = let w : ◌≡◌ {A = ℕ} 0 1 = cc in omega arith

fields_canonical : (l : List ℕ) (t m p : ℕ) → fields_of l ≡ numbers_of t m p
    → l ≡ digits_of t ++ 44 ∷ (digits_of m ++ 44 ∷ digits_of p)
unfolding fields_of
fields_canonical l t m p e =
    let v = three_values (number_of (field l)) (number_of (field (others l))) (number_of (others (others l))) t m p e in
    let first = split_at 44 l (has_comma l t m p l (no_comma l) e) in
    let second = split_at 44 (others l) (has_comma l t m p (others l) (one_comma l) e) in
    let dt = (read_is_canonical (field l) t v.0).0 in
    let dm = (read_is_canonical (field (others l)) m v.1).0 in
    let dp = (read_is_canonical (others (others l)) p v.2).0 in
    cc

ranged-Ok : (f : Option CueNumbers) (c : Cue) → cue_of_fields f ≡ Ok c
    → (f ≡ numbers_of c.time c.«module» c.pin) × InRange c
ranged-Ok None c e = let w : ◌≡◌ {A = ℕ} 0 1 = cc in absurd (omega arith)
ranged-Ok (Some n) c e = by_test (in_range n.time n.«module» n.pin) refl e
  where
    by_test : (b : Bool) → in_range n.time n.«module» n.pin ≡ b
        → cond {A = Result Cue Refusal} b (Ok (record { time = n.time; «module» = n.«module»; pin = n.pin })) (Err CueOutOfRange) ≡ Ok c
        → (Some n ≡ numbers_of c.time c.«module» c.pin) × InRange c
    by_test true r g =
        let d : Cue = record { time = n.time; «module» = n.«module»; pin = n.pin } in
        let q : d ≡ c = cc in (
          ap (λ (x : Cue). numbers_of x.time x.«module» x.pin) q,
          ap (λ (x : Cue). in_range x.time x.«module» x.pin) (sym q) ∙ r,
        )
    by_test false r g = let w : ◌≡◌ {A = ℕ} 0 1 = cc in absurd (omega arith)

pub cue_read_is_canonical : CueReadIsCanonical
cue_read_is_canonical l c e =
    let f = ranged-Ok (fields_of l) c e in
    (fields_canonical l c.time c.«module» c.pin f.0 ∙ sym (body_fields c), f.1)
