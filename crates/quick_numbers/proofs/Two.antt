-- Laws of a number of one digit or two, each read as the byte less 48 modulo 2 ^ 64. Assumes nothing.
use Rattle.std.proofs.Common.{◌≡◌, ℕ, ◌+◌, ◌-◌, ◌*◌, ◌%◌, ◌^◌, ◌<◌, ◌≤◌, List, [], ◌∷◌, length, get_or, take, drop, refl, ap, ◌∙◌, arith, length-drop, drop-cons}
use lib.ListN.{drop_of_length-le}
use Rattle.std.proofs.Common.{sym, length-take-le}
use Rattle.std.specs.Array.{IsFirstChunk}
use Rattle.std.specs.Prelude.{Some, None}
use Rattle.numbers.specs.Number.{value_from, number_of}
use Rattle.numbers.specs.Field.{leading}
use Rattle.numbers.proofs.Laws.{value_more, value_end, number_good, number_empty, number_zero}
use Rattle.numbers.proofs.FieldLaws.{lead_more, lead_end}
use Rattle.quick_numbers.specs.Short.{short_of}
use Rattle.quick_numbers.proofs.Digits.{no_lead}
use Rattle.quick_numbers.proofs.Laws.{short_text, short_bad, short_good}

-- ---- a digit d, and what stands behind it
leads : (d : ℕ) (l : List ℕ) → d ≤ 9 → leading ((48 + d) ∷ l) ≡ (48 + d) ∷ leading l
leads d l h = lead_more ((48 + d) ∷ l) 0 (omega arith) (omega arith) (omega arith)

leads_alone : (d : ℕ) → d ≤ 9 → leading ((48 + d) ∷ []) ≡ (48 + d) ∷ []
leads_alone d h = leads d [] h ∙ ap (λ (x : List ℕ). (48 + d) ∷ x) (lead_end [] 0 (omega arith))

value : (d v : ℕ) (l : List ℕ) → d ≤ 9 → value_from v ((48 + d) ∷ l) ≡ value_from (v * 10 + d) l
value d v l h =
    let b : 48 + d - 48 ≡ d = omega arith in
    value_more (48 + d) l v (omega arith) (omega arith) ∙ ap (λ (x : ℕ). value_from (v * 10 + x) l) b

one_number : (d : ℕ) → d ≤ 9 → number_of ((48 + d) ∷ []) ≡ Some d
one_number d h =
    let e : 0 * 10 + d ≡ d = omega arith in
    number_good ((48 + d) ∷ []) (omega arith) (omega arith) (λ o b. o refl)
    ∙ (value d 0 [] h ∙ (value_end [] (0 * 10 + d) refl ∙ ap Some e))

two_number : (a b : ℕ) → a ≤ 9 → b ≤ 9 → (a ≡ 0 → ⊥) → number_of ((48 + a) ∷ (48 + b) ∷ []) ≡ Some (a * 10 + b)
two_number a b h g z =
    let e : (0 * 10 + a) * 10 + b ≡ a * 10 + b = omega arith in
    number_good ((48 + a) ∷ (48 + b) ∷ []) (omega arith) (omega arith)
    (λ o c. let f : 48 + a ≡ 48 = c in z (omega arith))
    ∙ (value a 0 ((48 + b) ∷ []) h
    ∙ (value b (0 * 10 + a) [] g ∙ (value_end [] ((0 * 10 + a) * 10 + b) refl ∙ ap Some e)))

-- ---- the text at a place
pub no_text : (s : List ℕ) (at most window : ℕ) → 0 < window → length s < at + window
    → None ≡ short_of most window (drop at s)
no_text s at most window w h = short_text most window (drop at s) (omega (arith, length-drop at s))

-- two bytes at the front of a text, as the digits a and b
module _ (l t : List ℕ) (chunk : IsFirstChunk l t 2) (a b : ℕ) (first : (a + 48) % 2 ^ 64 ≡ get_or t 0 0)
    (second : (b + 48) % 2 ^ 64 ≡ get_or t 1 0) where
  two : take 2 l ≡ get_or t 0 0 ∷ get_or t 1 0 ∷ []
  two =
      let n : length t ≡ 2 = ap length chunk.same ∙ length-take-le 2 l chunk.enough in
      let none : drop 2 t ≡ [] = drop_of_length-le t {i = 2} (omega arith) in
      sym chunk.same
      ∙ (drop-cons t 0 0 (omega arith)
      ∙ ap (λ (x : List ℕ). get_or t 0 0 ∷ x)
      (drop-cons t 1 0 (omega arith) ∙ ap (λ (x : List ℕ). get_or t 1 0 ∷ x) none))

  pub not_first : 9 < a → a < 2 ^ 64 → None ≡ short_of 2 2 l
  not_first n m =
      short_bad 2 2 l [] (rw two (no_lead (get_or t 0 0) (get_or t 1 0 ∷ []) (λ p q. omega arith))) (number_empty [] refl)

  module _ (digit : a ≤ 9) where
    front : leading (take 2 l) ≡ (48 + a) ∷ leading (get_or t 1 0 ∷ [])
    front = let e : get_or t 0 0 ≡ 48 + a = omega arith in rw (two, e) (leads a (get_or t 1 0 ∷ []) digit)

    both : b ≤ 9 → leading (take 2 l) ≡ (48 + a) ∷ (48 + b) ∷ []
    both h =
        let e : get_or t 1 0 ≡ 48 + b = omega arith in
        front ∙ ap (λ (x : List ℕ). (48 + a) ∷ x) (ap (λ (x : ℕ). leading (x ∷ [])) e ∙ leads_alone b h)

    pub leading_zero : b ≤ 9 → a ≡ 0 → None ≡ short_of 2 2 l
    leading_zero h z =
        short_bad 2 2 l ((48 + a) ∷ (48 + b) ∷ []) (both h)
        (number_zero ((48 + a) ∷ (48 + b) ∷ []) (λ o. omega arith) (ap (λ (x : ℕ). 48 + x) z))

    pub two_digits : b ≤ 9 → (a ≡ 0 → ⊥) → Some (record { value = a * 10 + b; digits = 2 }) ≡ short_of 2 2 l
    two_digits h z =
        short_good 2 2 l ((48 + a) ∷ (48 + b) ∷ []) (a * 10 + b) 2 chunk.enough (both h) refl (omega arith)
        (two_number a b digit h z)

    pub first_alone : 9 < b → b < 2 ^ 64 → Some (record { value = a; digits = 1 }) ≡ short_of 2 2 l
    first_alone h g =
        short_good 2 2 l ((48 + a) ∷ []) a 1 chunk.enough
        (front ∙ ap (λ (x : List ℕ). (48 + a) ∷ x) (no_lead (get_or t 1 0) [] (λ p q. omega arith)))
        refl
        (omega arith)
        (one_number a digit)
