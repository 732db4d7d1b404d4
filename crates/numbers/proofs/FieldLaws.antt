-- Laws of the digits that a text starts with, and of the field that they may fill. Assumes nothing.
use mathlib.Core.Path.{◌≡◌, refl, sym, ap, ◌∙◌}
use mathlib.Core.Bool.{Bool, true, false, cond}
use mathlib.Core.List.{List, [], ◌∷◌}
use mathlib.Core.Logic.{inl, inr, ⊎_elim}
use Prim.Native.Nat.{ℕ, zero, suc, ◌+◌, ◌*◌, ◌-◌, ◌^◌, ◌≤◌, ◌<◌}
use native.Mathlib.Numerals.{add-one}
use native.Mathlib.Omega.{arith}
use lib.Dec.{ltb, eqb}
use lib.ListN.{length, get_or, take, drop, length-drop, drop_of_length-le}
use lib.Seq.{drop-cons, drop-drop, get_or-drop, take-length}
use borrow.Author.Tests.{lt-ltb, le-ltb, eq-eqb, ltb-false, eqb-true}
use Rattle.lines.specs.Lines.{up_to}
use Rattle.std.proofs.lemmas.Bool.{cases_lt}
use Rattle.lines.proofs.Laws.{up_le}
use Rattle.std.specs.Prelude.{Option, Some, None}
use Rattle.numbers.specs.declared.Field.{Field}
use Rattle.numbers.specs.Number.{value_from, number_of}
use Rattle.numbers.specs.Field.{field, others, leading, ending_at, field_at, leading_at}
use Rattle.numbers.specs.Field.{DigitsTo, DigitsPassed, NoInnerField}
use Rattle.numbers.proofs.Laws.{ten_more, ten_le, value_more, value_end}
use Rattle.numbers.proofs.Laws.{number_good, number_empty, number_long, number_zero, number_bad}

-- a number that ends at a place, as a field
abbrev pub number_to : ℕ → ℕ → Option Field
number_to n end = Some (record { value = n; end = end })

-- ---- from a place of a text on: a byte that is no digit, a digit, the end
pub lead_low : (s : List ℕ) (i : ℕ) → i < length s → get_or s i 0 < 48 → leading (drop i s) ≡ []
unfolding leading
lead_low s i h l = rw (drop-cons s i 0 h) (simp (lt-ltb _ _ l))

pub lead_high : (s : List ℕ) (i : ℕ) → i < length s → 48 ≤ get_or s i 0 → 57 < get_or s i 0 → leading (drop i s) ≡ []
unfolding leading
lead_high s i h l g = rw (drop-cons s i 0 h) (simp (le-ltb _ _ l, lt-ltb _ _ g))

pub lead_more : (s : List ℕ) (i : ℕ) → i < length s → 48 ≤ get_or s i 0 → get_or s i 0 ≤ 57
    → leading (drop i s) ≡ get_or s i 0 ∷ leading (drop (i + 1) s)
unfolding leading
lead_more s i h l g = rw (drop-cons s i 0 h, add-one) (simp (le-ltb _ _ l, le-ltb _ _ g))

pub lead_end : (s : List ℕ) (i : ℕ) → length s ≤ i → leading (drop i s) ≡ []
unfolding leading
lead_end s i h = rw (drop_of_length-le s h)

-- ---- the digits beside the text that they start
pub lead_le : (l : List ℕ) → length (leading l) ≤ length l
unfolding leading
lead_le [] = omega arith
lead_le (b ∷ bs) = by_tests (ltb b 48) (ltb 57 b) (lead_le bs)
  where
    by_tests : (p q : Bool) → length (leading bs) ≤ length bs
        → length (cond p [] (cond q [] (b ∷ leading bs))) ≤ suc (length bs)
    by_tests true q h = omega arith
    by_tests false true h = omega arith
    by_tests false false h = omega arith

pub lead_first : (l : List ℕ) → 0 < length (leading l) → get_or (leading l) 0 0 ≡ get_or l 0 0
unfolding leading
lead_first [] h = refl
lead_first (b ∷ bs) h = by_tests (ltb b 48) (ltb 57 b) h
  where
    by_tests : (p q : Bool) → 0 < length (cond p [] (cond q [] (b ∷ leading bs)))
        → get_or (cond p [] (cond q [] (b ∷ leading bs))) 0 0 ≡ b
    by_tests true q h = absurd (omega arith)
    by_tests false true h = absurd (omega arith)
    by_tests false false h = refl

lead_take : (l : List ℕ) → take (length (leading l)) l ≡ leading l
unfolding leading
lead_take [] = refl
lead_take (b ∷ bs) = by_tests (ltb b 48) (ltb 57 b) (lead_take bs)
  where
    by_tests : (p q : Bool) → take (length (leading bs)) bs ≡ leading bs
        → take (length (cond p [] (cond q [] (b ∷ leading bs)))) (b ∷ bs) ≡ cond p [] (cond q [] (b ∷ leading bs))
    by_tests true q e = refl
    by_tests false true e = refl
    by_tests false false e = ap (λ (x : List ℕ). b ∷ x) e

-- more of the text than its digits has no value
value_past : (l : List ℕ) (n k : ℕ) → length (leading l) < k → k ≤ length l → value_from n (take k l) ≡ None
unfolding leading value_from
value_past l n zero h m = absurd (omega arith)
value_past [] n (suc k) h m = absurd (omega arith)
value_past (b ∷ bs) n (suc k) h m =
    by_tests (ltb b 48) (ltb 57 b) (λ g. value_past bs (n * 10 + (b - 48)) k g (omega arith)) h
  where
    by_tests : (p q : Bool)
        → (length (leading bs) < k → value_from (n * 10 + (b - 48)) (take k bs) ≡ None)
        → length (cond p [] (cond q [] (b ∷ leading bs))) < suc k
        → cond p None (cond q None (value_from (n * 10 + (b - 48)) (take k bs))) ≡ None
    by_tests true q f g = refl
    by_tests false true f g = refl
    by_tests false false f g = f (omega arith)

-- ---- the digits beside what is to be a number: the first k bytes of a text
pub number_past : (l : List ℕ) (k : ℕ) → length (leading l) < k → k ≤ length l → number_of (take k l) ≡ None
number_past l k h m = number_bad (take k l) (value_past l 0 k h m)

pub number_same : (l : List ℕ) (k : ℕ) → length (leading l) ≡ k → number_of (take k l) ≡ number_of (leading l)
number_same l k e = ap number_of (ap (λ (n : ℕ). take n l) (sym e) ∙ lead_take l)

pub number_none : (l : List ℕ) (k : ℕ) → length (leading l) ≤ k → k ≤ length l → number_of (leading l) ≡ None
    → number_of (take k l) ≡ None
number_none l k h m e =
    ⊎_elim
    (λ g. number_past l k g m)
    (λ g. let z : length (leading l) ≡ k = omega arith in number_same l k z ∙ e)
    (cases_lt (length (leading l)) k)

-- ---- the number of the digits at a place: what the tests of the code show
lead_byte : (s : List ℕ) (at : ℕ) → 0 < length (leading (drop at s)) → get_or (leading (drop at s)) 0 0 ≡ get_or s at 0
lead_byte s at h =
    let e : at + 0 ≡ at = omega arith in
    lead_first (drop at s) h ∙ (get_or-drop at s 0 0 ∙ ap (λ (i : ℕ). get_or s i 0) e)

no_leading : (s : List ℕ) (at : ℕ) → number_of (leading (drop at s)) ≡ None → None ≡ leading_at s at
unfolding leading_at
no_leading s at e = sym (ap (ending_at (at + length (leading (drop at s)))) e)

-- what passing them told, by its result
pub many_passed : (s : List ℕ) (at : ℕ) (r : Option Field) → DigitsPassed s at r → r ≡ None → None ≡ leading_at s at
many_passed s at r d e =
    let h : 9 < length (leading (drop at s)) = rw e at d in
    no_leading s at (number_long _ h)

pub digits_none : (s : List ℕ) (at end n : ℕ) → DigitsTo s at end n → end ≡ at → None ≡ leading_at s at
digits_none s at end n d e =
    let z : length (leading (drop at s)) ≡ 0 = omega arith in
    no_leading s at (number_empty _ z)

pub digits_zero : (s : List ℕ) (at end n : ℕ) → DigitsTo s at end n → (end ≡ at → ⊥) → (end - at ≡ 1 → ⊥)
    → get_or s at 0 ≡ 48 → None ≡ leading_at s at
digits_zero s at end n d f g e =
    let h : 0 < length (leading (drop at s)) = omega arith in
    no_leading s at (number_zero _ (λ o. g (omega arith)) (lead_byte s at h ∙ e))

pub digits_within : (s : List ℕ) (at end n : ℕ) → DigitsTo s at end n → (end ≡ at → ⊥) → end ≤ length s
digits_within s at end n d f = omega (arith, lead_le (drop at s), length-drop at s)

pub digits_good : (s : List ℕ) (at end n : ℕ) → DigitsTo s at end n → (end ≡ at → ⊥)
    → ((end - at ≡ 1 → ⊥) → get_or s at 0 ≡ 48 → ⊥)
    → (number_to n end ≡ leading_at s at) × ((end ≤ length s) × (n < 1000000000))
unfolding leading_at
digits_good s at end n d f g =
    let h : 0 < length (leading (drop at s)) = omega arith in
    let m : length (leading (drop at s)) ≤ 9 = omega arith in
    let e = number_good (leading (drop at s)) h m (λ o b. g (λ z. o (omega arith)) (sym (lead_byte s at h) ∙ b)) in (
      sym (ap (ending_at (at + length (leading (drop at s)))) (e ∙ d.value) ∙ ap (number_to n) d.ends),
      (digits_within s at end n d f, d.fits),
    )

-- ---- the digits that the loop has passed
-- the i - at digits from `at` on have the value n, and those left behind it complete the digits at `at`
pub record Passed (s : List ℕ) (at i n : ℕ) : Type 0 where
  pub from : at ≤ i
  pub few : i ≤ at + 9
  pub fits : n < 10 ^ (i - at)
  pub ends : at + length (leading (drop at s)) ≡ i + length (leading (drop i s))
  pub value : value_from n (leading (drop i s)) ≡ value_from 0 (leading (drop at s))

pub Passed-more : (s : List ℕ) (at i n d : ℕ) → Passed s at i n → i < length s → 48 ≤ get_or s i 0 → get_or s i 0 ≤ 57
    → d ≡ get_or s i 0 - 48 → (i - at ≡ 9 → ⊥) → Passed s at (i + 1) (n * 10 + d)
Passed-more s at i n d p h l g e f =
    let b = get_or s i 0 in
    let m = lead_more s i h l g in
    let k : length (leading (drop i s)) ≡ length (leading (drop (i + 1) s)) + 1 = ap length m ∙ sym (add-one _) in
    let j : i + 1 - at ≡ i - at + 1 = omega (arith, p.from) in
    let t = ten_more (i - at) in
    record {
      from = omega (arith, p.from);
      few = omega (arith, p.few, p.from);
      fits = rw j (omega (arith, p.fits, e));
      ends = omega (arith, p.ends);
      value =
          ap (λ (x : ℕ). value_from (n * 10 + x) (leading (drop (i + 1) s))) e
          ∙ (sym (value_more b (leading (drop (i + 1) s)) n l g)
          ∙ (ap (value_from n) (sym m) ∙ p.value));
    }

pub Passed-all : (s : List ℕ) (at i n : ℕ) → Passed s at i n → leading (drop i s) ≡ [] → DigitsTo s at i n
Passed-all s at i n p e =
    let z : length (leading (drop i s)) ≡ 0 = ap length e in
    let t : 10 ^ (i - at) ≤ 10 ^ 9 = ten_le (i - at) 9 (omega (arith, p.few)) in
    record {
      ends = omega (arith, p.ends);
      few = p.few;
      value = sym p.value ∙ value_end _ n e;
      fits = omega (arith, p.fits);
    }

pub Passed-end : (s : List ℕ) (at i end n : ℕ) → Passed s at i n → length s ≤ i → end ≡ i → DigitsTo s at end n
Passed-end s at i end n p h e = rw e (Passed-all s at i n p (lead_end s i h))

-- a tenth digit
pub Passed-many : (s : List ℕ) (at i n : ℕ) → Passed s at i n → i < length s → 48 ≤ get_or s i 0 → get_or s i 0 ≤ 57
    → i - at ≡ 9 → 9 < length (leading (drop at s))
Passed-many s at i n p h l g e =
    let k : length (leading (drop i s)) ≡ suc (length (leading (drop (i + 1) s))) = ap length (lead_more s i h l g) in
    omega (arith, p.ends)

-- ---- the first comma
up_stands : (sep : ℕ) (l : List ℕ) → up_to sep l < length l → get_or l (up_to sep l) 0 ≡ sep
unfolding up_to
up_stands sep [] h = absurd (omega arith)
up_stands sep (b ∷ bs) h = by_test (eqb b sep) refl (up_stands sep bs) h
  where
    by_test : (t : Bool) → eqb b sep ≡ t → (up_to sep bs < length bs → get_or bs (up_to sep bs) 0 ≡ sep)
        → cond t 0 (suc (up_to sep bs)) < suc (length bs) → get_or (b ∷ bs) (cond t 0 (suc (up_to sep bs))) 0 ≡ sep
    by_test true e f h = eqb-true _ _ e
    by_test false e f h = f (omega arith)

up_at_most : (sep : ℕ) (l : List ℕ) (k : ℕ) → k < length l → get_or l k 0 ≡ sep → up_to sep l ≤ k
unfolding up_to
up_at_most sep [] k h e = absurd (omega arith)
up_at_most sep (b ∷ bs) zero h e = rw (eq-eqb b sep e) (omega arith)
up_at_most sep (b ∷ bs) (suc k) h e = by_test (eqb b sep) (up_at_most sep bs k (omega arith) e)
  where
    by_test : (t : Bool) → up_to sep bs ≤ k → cond t 0 (suc (up_to sep bs)) ≤ suc k
    by_test true m = omega arith
    by_test false m = omega arith

-- no digit is a comma
lead_up : (l : List ℕ) → length (leading l) ≤ up_to 44 l
unfolding leading up_to
lead_up [] = omega arith
lead_up (b ∷ bs) = by_tests (ltb b 48) (ltb 57 b) (eqb b 44) refl refl (lead_up bs)
  where
    by_tests : (p q r : Bool) → ltb b 48 ≡ p → eqb b 44 ≡ r → length (leading bs) ≤ up_to 44 bs
        → length (cond p [] (cond q [] (b ∷ leading bs))) ≤ cond r 0 (suc (up_to 44 bs))
    by_tests true q r ep er h = omega arith
    by_tests false true r ep er h = omega arith
    by_tests false false true ep er h =
        let l : 48 ≤ b = ltb-false b 48 ep in
        let e : b ≡ 44 = eqb-true b 44 er in
        absurd (omega arith)
    by_tests false false false ep er h = omega arith

-- ---- the field at a place, from the number of the digits there
ending_none : (end : ℕ) (x : Option ℕ) → ending_at end x ≡ None → x ≡ None
ending_none end (Some n) e = cc
ending_none end None e = refl

ending_place : (place end n : ℕ) (x : Option ℕ) → ending_at place x ≡ number_to n end → place ≡ end
ending_place place end n (Some m) e =
    let f : ◌≡◌ {A = Field} (record { value = m; end = place }) (record { value = n; end = end }) = cc in
    ap (λ (x : Field). x.end) f
ending_place place end n None e = cc

ending_value : (place end n : ℕ) (x : Option ℕ) → ending_at place x ≡ number_to n end → x ≡ Some n
ending_value place end n (Some m) e =
    let f : ◌≡◌ {A = Field} (record { value = m; end = place }) (record { value = n; end = end }) = cc in
    ap (λ (x : Field). Some x.value) f
ending_value place end n None e = cc

none_leads : (s : List ℕ) (at : ℕ) → leading_at s at ≡ None → number_of (leading (drop at s)) ≡ None
unfolding leading_at
none_leads s at e = ending_none _ _ e

leads_to : (s : List ℕ) (at n end : ℕ) → leading_at s at ≡ number_to n end
    → (at + length (leading (drop at s)) ≡ end) × (number_of (leading (drop at s)) ≡ Some n)
unfolding leading_at
leads_to s at n end e =
    let x = number_of (leading (drop at s)) in
    let p = at + length (leading (drop at s)) in
    (ending_place p end n x e, ending_value p end n x e)

field_same : (s : List ℕ) (at n end : ℕ) → leading_at s at ≡ number_to n end
    → length (leading (drop at s)) ≡ up_to 44 (drop at s) → number_to n end ≡ field_at s at
unfolding field_at
field_same s at n end q e =
    let t = leads_to s at n end q in
    let p : at + up_to 44 (drop at s) ≡ end = omega arith in
    sym (ap (ending_at (at + up_to 44 (drop at s))) (number_same (drop at s) _ e ∙ t.1) ∙ ap (number_to n) p)

pub field_none : (s : List ℕ) (at : ℕ) → leading_at s at ≡ None → None ≡ field_at s at
unfolding field_at
field_none s at q =
    let l = drop at s in
    sym (ap (ending_at (at + up_to 44 l)) (number_none l (up_to 44 l) (lead_up l) (up_le 44 l) (none_leads s at q)))

pub field_end : (s : List ℕ) (at n end : ℕ) → leading_at s at ≡ number_to n end → end ≡ length s
    → number_to n end ≡ field_at s at
field_end s at n end q e =
    let t = leads_to s at n end q in
    let l = drop at s in
    let z : length (leading l) ≡ up_to 44 l = omega (arith, lead_up l, up_le 44 l, length-drop at s) in
    field_same s at n end q z

-- a byte that is no comma behind the digits: the comma stands further on
not_there : (l : List ℕ) → length (leading l) < length l → (get_or l (length (leading l)) 0 ≡ 44 → ⊥)
    → length (leading l) < up_to 44 l
not_there l k f =
    ⊎_elim
    (λ h. h)
    (λ h.
    let e : up_to 44 l ≡ length (leading l) = omega (arith, lead_up l) in
    let g : up_to 44 l < length l = omega arith in
    absurd (f (ap (λ (i : ℕ). get_or l i 0) (sym e) ∙ up_stands 44 l g)))
    (cases_lt (length (leading l)) (up_to 44 l))

-- the byte behind the digits
behind : (s : List ℕ) (at n end : ℕ) → leading_at s at ≡ number_to n end
    → get_or (drop at s) (length (leading (drop at s))) 0 ≡ get_or s end 0
behind s at n end q =
    get_or-drop at s (length (leading (drop at s))) 0 ∙ ap (λ (i : ℕ). get_or s i 0) (leads_to s at n end q).0

pub field_comma : (s : List ℕ) (at n end : ℕ) → leading_at s at ≡ number_to n end → end < length s
    → get_or s end 0 ≡ 44 → number_to n end ≡ field_at s at
field_comma s at n end q h e =
    let t = leads_to s at n end q in
    let l = drop at s in
    let k : length (leading l) < length l = omega (arith, length-drop at s) in
    let u = up_at_most 44 l (length (leading l)) k (behind s at n end q ∙ e) in
    let z : length (leading l) ≡ up_to 44 l = omega (arith, lead_up l) in
    field_same s at n end q z

pub field_broken : (s : List ℕ) (at n end : ℕ) → leading_at s at ≡ number_to n end → end < length s
    → (get_or s end 0 ≡ 44 → ⊥) → None ≡ field_at s at
unfolding field_at
field_broken s at n end q h f =
    let t = leads_to s at n end q in
    let l = drop at s in
    let k : length (leading l) < length l = omega (arith, length-drop at s) in
    let b = behind s at n end q in
    let p : length (leading l) < up_to 44 l = not_there l k (λ e. f (sym b ∙ e)) in
    sym (ap (ending_at (at + up_to 44 l)) (number_past l (up_to 44 l) p (up_le 44 l)))

-- ---- the whole of a text as one number
pub whole_none : (s : List ℕ) → leading_at s 0 ≡ None → None ≡ number_of s
whole_none s q =
    let h : length s ≤ length s = omega arith in
    sym (ap number_of (sym (take-length s)) ∙ number_none s (length s) (lead_le s) h (none_leads s 0 q))

pub whole_past : (s : List ℕ) (n end : ℕ) → leading_at s 0 ≡ number_to n end → end ≤ length s → (end ≡ length s → ⊥)
    → None ≡ number_of s
whole_past s n end q m f =
    let t = (leads_to s 0 n end q).0 in
    let h : length s ≤ length s = omega arith in
    let k : length (leading s) < length s = omega arith in
    sym (ap number_of (sym (take-length s)) ∙ number_past s (length s) k h)

pub whole : (s : List ℕ) (n end : ℕ) → leading_at s 0 ≡ number_to n end → end ≡ length s → Some n ≡ number_of s
whole s n end q e =
    let t = (leads_to s 0 n end q).0 in
    let k : length (leading s) ≡ length s = omega arith in
    sym (ap number_of (sym (take-length s)) ∙ (number_same s (length s) k ∙ (leads_to s 0 n end q).1))

-- ---- what is known of a field that was read
pub no_field : (s : List ℕ) (at : ℕ) → field_at s at ≡ None → number_of (field (drop at s)) ≡ None
unfolding field_at
no_field s at e = ending_none _ _ e

pub field_read : (s : List ℕ) (at n end : ℕ) → field_at s at ≡ number_to n end
    → (at + up_to 44 (drop at s) ≡ end) × (number_of (field (drop at s)) ≡ Some n)
unfolding field_at
field_read s at n end e =
    let x = number_of (field (drop at s)) in
    let p = at + up_to 44 (drop at s) in
    (ending_place p end n x e, ending_value p end n x e)

-- ---- a field that a comma ends
pub no_inner : (s : List ℕ) (at : ℕ) → field_at s at ≡ None → NoInnerField s at
no_inner s at e = record { nothing = inl (no_field s at e) }

pub last_field : (s : List ℕ) (at : ℕ) (f : Field) → field_at s at ≡ Some f → f.end ≡ length s → NoInnerField s at
last_field s at f e h =
    let l = drop at s in
    let p = (field_read s at f.value f.end e).0 in
    record { nothing = inr (drop_of_length-le l {i = up_to 44 l + 1} (omega (arith, length-drop at s))) }

module _ (s : List ℕ) (at : ℕ) (f : Field) (e : field_at s at ≡ Some f) where
  pub read_number : number_of (field (drop at s)) ≡ Some f.value
  read_number = (field_read s at f.value f.end e).1

  pub read_end : at + up_to 44 (drop at s) ≡ f.end
  read_end = (field_read s at f.value f.end e).0

  pub read_behind : drop (f.end + 1) s ≡ others (drop at s)
  read_behind =
      let l = drop at s in
      let j : f.end + 1 ≡ at + (up_to 44 l + 1) = omega (arith, read_end) in
      rw j (sym (drop-drop (up_to 44 l + 1) at s))

pub ruleset inner_rules = (no_inner, last_field, read_number, read_end, read_behind)
