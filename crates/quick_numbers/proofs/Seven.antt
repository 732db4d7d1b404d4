-- Laws of at most seven digits read from eight bytes. Assumes nothing.
use Rattle.std.proofs.Common.{◌≡◌, ℕ, ◌+◌, ◌-◌, ◌*◌, ◌/◌, ◌%◌, ◌^◌, ◌<◌, ◌≤◌, List, length, take, drop, sym, refl, ap, ◌∙◌, ⊎_elim, arith, length-drop, length-take-le}
use Rattle.std.specs.Prelude.{Some, None}
use Rattle.std.proofs.lemmas.Bool.{cases_lt}
use Rattle.numbers.specs.Field.{leading}
use Rattle.numbers.proofs.Laws.{number_good, number_empty, number_zero}
use Rattle.eight_bytes.specs.Eight.{number_from, AllBytes, eight_at}
use Rattle.eight_bytes.proofs.Laws.{eight_found, eight_none}
use Rattle.quick_numbers.specs.Bytes.{Digits, small_bytes, folded}
use Rattle.quick_numbers.specs.Short.{short_of}
use Rattle.quick_numbers.proofs.Digits.{each, above, moved, Told, told}
use Rattle.quick_numbers.proofs.Laws.{short_text, short_bad, short_many, short_good}

pub no_eight : (s : List ℕ) (at : ℕ) → None ≡ eight_at s at → None ≡ short_of 7 8 (drop at s)
no_eight s at e = let few = eight_none s at e in short_text 7 8 (drop at s) (omega (arith, length-drop at s))

-- n is the number of small bytes of z, the eight bytes x less 48 each
module _ (s : List ℕ) (at x z n : ℕ) (found : Some x ≡ eight_at s at)
    (bytes : at + 8 ≤ length s → AllBytes (take 8 (drop at s))) (e : (z + 3472328296227680304) % 2 ^ 64 ≡ x)
    (c : n ≡ small_bytes 8 z) where
  room : at + 8 ≤ length s
  room = (eight_found s at x found).0

  there : Told (leading (take 8 (drop at s))) 8 z
  there =
      let l = take 8 (drop at s) in
      let el : length l ≡ 8 = length-take-le 8 (drop at s) (omega (arith, room, length-drop at s)) in
      let ex = (eight_found s at x found).1 in
      let k : number_from l + above (length l) ((z + 3472328296227680304) / 2 ^ 64) ≡ z + each (length l) 48 =
      rw el (omega arith) in
      rw el at (told l z ((z + 3472328296227680304) / 2 ^ 64) (bytes room) k)

  count : length (leading (take 8 (drop at s))) ≡ n
  count = there.count ∙ sym c

  pub few_or_many : (1 ≤ n → n ≤ 7 → ⊥) → None ≡ short_of 7 8 (drop at s)
  few_or_many h =
      ⊎_elim
      (λ g. short_many 7 8 (drop at s) _ refl (omega (arith, count)))
      (λ g. short_bad 7 8 (drop at s) _ refl (number_empty _ (count ∙ none g)))
      (cases_lt 7 n)
    where
      none : n ≤ 7 → n ≡ 0
      none g = ⊎_elim (λ o. absurd (h o g)) (λ o. omega arith) (cases_lt 0 n)

  pub leading_zero : n ≤ 7 → 1 + z % 256 * 9 < n → None ≡ short_of 7 8 (drop at s)
  leading_zero g h =
      let i = there.first (omega (arith, count)) in
      short_bad 7 8 (drop at s) _ refl (number_zero _ (λ o. omega (arith, count)) (omega arith))

  pub all_digits : Digits n z
  all_digits = rw count at there.digits

  pub seven_digits : (y v : ℕ) → 1 ≤ n → n ≤ 7 → y ≡ z * 2 ^ (64 - 8 * n) % 2 ^ 64 → v ≡ folded 8 0 y
      → n ≤ 1 + z % 256 * 9 → Some (record { value = v; digits = n }) ≡ short_of 7 8 (drop at s)
  seven_digits y v h g up ev lead =
      let k = count in
      let w : v ≡ folded n 0 z = ev ∙ (moved n y z (omega arith) up all_digits).1 in
      let i = there.first (omega arith) in
      short_good 7 8 (drop at s) _ v n (omega (arith, room, length-drop at s)) refl k g
      (number_good _ (omega arith) (omega arith) (λ o b. omega arith)
      ∙ (there.value 0 ∙ ap Some (ap (λ (m : ℕ). folded m 0 z) k ∙ sym w)))
