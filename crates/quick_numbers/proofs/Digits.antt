-- Laws of the bytes of a number: where the first one larger than 9 stands, the digits moved to the top, and what the
-- text's bytes are. Assumes nothing.
use Rattle.std.proofs.Common.{◌≡◌, ℕ, zero, suc, ◌+◌, ◌-◌, ◌*◌, ◌/◌, ◌%◌, ◌^◌, ◌<◌, ◌≤◌, ◌⊎◌, List, [], ◌∷◌, length, get_or, sym, refl, ap, ◌∙◌, inl, inr, ⊎_elim, mul_assoc, mul-one, arith, pow-add, le-leb}
use lib.Bits.{bit_and, bit_or, and_shr, or_shr, and_mod, or_mod, and_block, and_zero_r, shifted_half, shifted_even}
use lib.Count.{count_trailing_zeros, under}
use lib.Pow.{split}
use borrow.Author.Tests.{lt-leb}
use Rattle.std.proofs.lemmas.Bool.{cases_lt}
use Rattle.std.specs.Prelude.{Some}
use Rattle.numbers.specs.Number.{value_from}
use Rattle.numbers.specs.Field.{leading}
use Rattle.numbers.proofs.Laws.{value_more, value_end}
use Rattle.numbers.proofs.FieldLaws.{lead_low, lead_high, lead_more, lead_end}
use Rattle.eight_bytes.specs.Eight.{number_from, AllBytes}
use Rattle.quick_numbers.specs.Bytes.{Digits, small_bytes, folded}

-- k bytes b
abbrev pub each : ℕ → ℕ → ℕ
each zero b = 0
each (suc k) b = b + 256 * each k b

-- a number above k bytes 0
abbrev pub above : ℕ → ℕ → ℕ
above zero q = q
above (suc k) q = 256 * above k q

-- ---- the small bytes, one by one
small_more : (k z : ℕ) → z % 256 ≤ 9 → small_bytes (suc k) z ≡ suc (small_bytes k (z / 256))
unfolding small_bytes
small_more k z h = rw (le-leb (z % 256) 9 h)

pub small_stop : (k z : ℕ) → 9 < z % 256 → small_bytes (suc k) z ≡ 0
unfolding small_bytes
small_stop k z h = rw (lt-leb (z % 256) 9 h)

small_none : (z : ℕ) → small_bytes 0 z ≡ 0
unfolding small_bytes
small_none z = refl

-- ---- the top bit of a byte
one_bit : (p q : ℕ) → p < 2 → q < 2 → 1 ≤ p + q → bit_and (bit_or p q) 1 ≡ 1
one_bit zero zero h k e = absurd (omega arith)
one_bit zero (suc zero) h k e = refl
one_bit (suc zero) zero h k e = refl
one_bit (suc zero) (suc zero) h k e = refl
one_bit zero (suc (suc q)) h k e = absurd (omega arith)
one_bit (suc zero) (suc (suc q)) h k e = absurd (omega arith)
one_bit (suc (suc p)) q h k e = absurd (omega arith)

top_bit : (a b : ℕ) → bit_and (bit_or a b) 128 ≡ bit_and (bit_or (a / 128) (b / 128)) 1 * 128
top_bit a b =
    let x = bit_or a b in
    let z = and_zero_r (x % 128) in
    let e : bit_and (x / 128) 1 ≡ bit_and (bit_or (a / 128) (b / 128)) 1 = ap (λ (x : ℕ). bit_and x 1) (or_shr a b 7) in
    ap (λ (x : ℕ). bit_and x 128) (sym (split x 7))
    ∙ (and_block 7 (x / 128) 1 (x % 128) 0 (omega arith) (omega arith) ∙ omega (arith, z, e))

top_clear : (a b : ℕ) → a < 128 → b < 128 → bit_and (bit_or a b) 128 ≡ 0
top_clear a b h k =
    let p : a / 128 ≡ 0 = omega arith in
    let q : b / 128 ≡ 0 = omega arith in
    top_bit a b ∙ rw (p, q) refl

top_set : (a b : ℕ) → a < 256 → b < 256 → 1 ≤ a / 128 + b / 128 → bit_and (bit_or a b) 128 ≡ 128
top_set a b h k e =
    top_bit a b ∙ ap (λ (x : ℕ). x * 128) (one_bit (a / 128) (b / 128) (omega arith) (omega arith) e)

-- ---- the zeros below the lowest bit
zeros_below : (j t m a : ℕ) → t ≡ j + m → count_trailing_zeros t (a * 2 ^ j) ≡ j + count_trailing_zeros m a
unfolding count_trailing_zeros
zeros_below zero t m a e =
    let f : t ≡ m = omega arith in
    rw (f, mul-one a) (omega arith)
zeros_below (suc j) zero m a e = absurd (omega arith)
zeros_below (suc j) (suc t) m a e =
    let i = zeros_below j t m a (omega arith) in
    ap (λ (r : ℕ). under r (count_trailing_zeros t (a * 2 ^ suc j / 2))) (shifted_even a j)
    ∙ (ap (λ (x : ℕ). suc (count_trailing_zeros t x)) (shifted_half a j) ∙ omega (arith, i))

no_zeros : (m a : ℕ) → a % 2 ≡ 1 → count_trailing_zeros (suc m) a ≡ 0
unfolding count_trailing_zeros
no_zeros m a e = ap (λ (r : ℕ). under r (count_trailing_zeros m (a / 2))) e

byte_passed : (t m r : ℕ) → t ≡ 8 + m → r % 256 ≡ 0 → count_trailing_zeros t r ≡ 8 + count_trailing_zeros m (r / 256)
byte_passed t m r e h =
    let f : r ≡ r / 256 * 2 ^ 8 = omega arith in
    ap (count_trailing_zeros t) f ∙ zeros_below 8 t m (r / 256) e

byte_found : (t m r : ℕ) → t ≡ 8 + m → r % 256 ≡ 128 → count_trailing_zeros t r ≡ 7
byte_found t m r e h =
    let a = r / 256 * 2 + 1 in
    let f : r ≡ a * 2 ^ 7 = omega arith in
    let o = no_zeros m a (omega arith) in
    ap (count_trailing_zeros t) f ∙ (zeros_below 7 t (suc m) a (omega arith) ∙ omega (arith, o))

-- ---- 118 more in each byte, modulo 256 ^ k: the lowest top bit is set in the first byte larger than 9
larger_found : (k t z s q : ℕ) → t ≡ 8 * k → s + above k q ≡ z + each k 118
    → count_trailing_zeros t (bit_and (bit_or s z) (each k 128)) / 8 ≡ small_bytes k z
unfolding count_trailing_zeros
larger_found zero t z s q e f = rw e (sym (small_none z))
larger_found (suc k) t z s q e f =
    let r = bit_and (bit_or s z) (each (suc k) 128) in
    let m : (128 + 256 * each k 128) % 256 ≡ 128 = omega arith in
    let d : (128 + 256 * each k 128) / 256 ≡ each k 128 = omega arith in
    let low : r % 256 ≡ bit_and (bit_or (s % 256) (z % 256)) 128 =
    and_mod (bit_or s z) (each (suc k) 128) 8
    ∙ (ap (λ (x : ℕ). bit_and (bit_or s z % 256) x) m ∙ ap (λ (x : ℕ). bit_and x 128) (or_mod s z 8)) in
    let high : r / 256 ≡ bit_and (bit_or (s / 256) (z / 256)) (each k 128) =
    and_shr (bit_or s z) (each (suc k) 128) 8
    ∙ (ap (λ (x : ℕ). bit_and (bit_or s z / 256) x) d ∙ ap (λ (x : ℕ). bit_and x (each k 128)) (or_shr s z 8)) in
    go r low high (larger_found k (8 * k) (z / 256) (s / 256) q refl) (cases_lt 9 (z % 256))
  where
    go : (r : ℕ) → r % 256 ≡ bit_and (bit_or (s % 256) (z % 256)) 128
        → r / 256 ≡ bit_and (bit_or (s / 256) (z / 256)) (each k 128)
        → (s / 256 + above k q ≡ z / 256 + each k 118
        → count_trailing_zeros (8 * k) (bit_and (bit_or (s / 256) (z / 256)) (each k 128)) / 8 ≡ small_bytes k (z / 256))
        → (9 < z % 256) ⊎ (z % 256 ≤ 9) → count_trailing_zeros t r / 8 ≡ small_bytes (suc k) z
    go r low high i (inl h) =
        let b = top_set (s % 256) (z % 256) (omega arith) (omega arith) (omega arith) in
        let o = byte_found t (8 * k) r (omega arith) (low ∙ b) in
        let n = small_stop k z h in
        omega (arith, o, n)
    go r low high i (inr h) =
        let b = top_clear (s % 256) (z % 256) (omega arith) (omega arith) in
        let o = byte_passed t (8 * k) r (omega arith) (low ∙ b) in
        let n = small_more k z h in
        let p = ap (count_trailing_zeros (8 * k)) high in
        let g = i (omega arith) in
        omega (arith, o, n, p, g)

pub small_told : (z s : ℕ) → s ≡ (z + 8536140394893047414) % 2 ^ 64
    → count_trailing_zeros 64 (bit_and (bit_or s z) 9259542123273814144) / 8 ≡ small_bytes 8 z
small_told z s e = larger_found 8 64 z s ((z + 8536140394893047414) / 2 ^ 64) refl (omega arith)

-- ---- the digits at the top
above_power : (j z : ℕ) → above j z ≡ z * 2 ^ (8 * j)
above_power zero z = omega arith
above_power (suc j) z =
    let p : 8 * suc j ≡ 8 * j + 8 = omega arith in
    let e : 2 ^ (8 * suc j) ≡ 2 ^ (8 * j) * 256 = ap (λ (x : ℕ). 2 ^ x) p ∙ pow-add 2 (8 * j) 8 in
    let a : z * 2 ^ (8 * suc j) ≡ z * 2 ^ (8 * j) * 256 =
    ap (λ (x : ℕ). z * x) e ∙ sym (mul_assoc z (2 ^ (8 * j)) 256) in
    let i = above_power j z in
    omega (arith, a, i)

-- the first n bytes alone
cut : (n y z q v : ℕ) → Digits n z → y + above n q ≡ z → Digits n y × (folded n v y ≡ folded n v z)
cut zero y z q v d e = (tt, refl)
cut (suc n) y z q v d e =
    let m : y % 256 ≡ z % 256 = omega arith in
    let c = cut n (y / 256) (z / 256) q (v * 10 + y % 256) d.1 (omega arith) in
    ((rw m d.0, c.0), c.1 ∙ ap (λ (x : ℕ). folded n (v * 10 + x) (z / 256)) m)

-- with j bytes 0 in front of them
up : (j k n y z q : ℕ) → k ≡ j + n → Digits n z → y + above k q ≡ above j z
    → Digits k y × (folded k 0 y ≡ folded n 0 z)
up zero k n y z q h d e =
    let i : k ≡ n = omega arith in
    rw i (cut n y z q 0 d (rw i at e))
up (suc j) zero n y z q h d e = absurd (omega arith)
up (suc j) (suc k) n y z q h d e =
    let m : y % 256 ≡ 0 = omega arith in
    let o : 0 * 10 + y % 256 ≡ 0 = omega arith in
    let r = up j k n (y / 256) z q (omega arith) d (omega arith) in
    ((omega arith, r.0), ap (λ (x : ℕ). folded k x (y / 256)) o ∙ r.1)

pub moved : (n y z : ℕ) → n ≤ 8 → y ≡ z * 2 ^ (64 - 8 * n) % 2 ^ 64 → Digits n z
    → Digits 8 y × (folded 8 0 y ≡ folded n 0 z)
moved n y z h e d =
    let p : 8 * (8 - n) ≡ 64 - 8 * n = omega arith in
    let a : above (8 - n) z ≡ z * 2 ^ (64 - 8 * n) = above_power (8 - n) z ∙ ap (λ (x : ℕ). z * 2 ^ x) p in
    up (8 - n) 8 n y z (z * 2 ^ (64 - 8 * n) / 2 ^ 64) (omega arith) d (omega (arith, a, e))

-- ---- the text's bytes
-- the first k bytes of z tell the digits t at the front of a text
pub record Told (t : List ℕ) (k z : ℕ) : Type 0 where
  pub count : length t ≡ small_bytes k z
  pub digits : Digits (length t) z
  pub value : (v : ℕ) → value_from v t ≡ Some (folded (length t) v z)
  pub first : 0 < length t → get_or t 0 0 ≡ 48 + z % 256

pub no_lead : (b : ℕ) (l : List ℕ) → (48 ≤ b → b ≤ 57 → ⊥) → leading (b ∷ l) ≡ []
no_lead b l f =
    ⊎_elim
    (λ h. lead_low (b ∷ l) 0 (omega arith) h)
    (λ h. ⊎_elim (λ g. lead_high (b ∷ l) 0 (omega arith) h g) (λ g. absurd (f h g)) (cases_lt 57 b))
    (cases_lt b 48)

pub told : (l : List ℕ) (z r : ℕ) → AllBytes l → number_from l + above (length l) r ≡ z + each (length l) 48
    → Told (leading l) (length l) z
told [] z r a e =
    rw (lead_end [] 0 (omega arith))
    (record {
      count = sym (small_none z);
      digits = tt;
      value = λ v. value_end [] v refl;
      first = λ h. absurd (omega arith);
    })
told (b ∷ l) z r a e =
    let byte : b < 256 = a.0 in
    ⊎_elim
    (λ h.
    rw (no_lead b l (λ p q. omega arith))
    (record {
      count = sym (small_stop (length l) z h);
      digits = tt;
      value = λ v. value_end [] v refl;
      first = λ g. absurd (omega arith);
    }))
    (λ h.
    let is : b ≡ 48 + z % 256 = omega arith in
    let w : b - 48 ≡ z % 256 = omega arith in
    let i = told l (z / 256) r a.1 (omega arith) in
    rw (lead_more (b ∷ l) 0 (omega arith) (omega arith) (omega arith))
    (record {
      count = ap suc i.count ∙ sym (small_more (length l) z h);
      digits = (h, i.digits);
      value = λ v.
          value_more b (leading l) v (omega arith) (omega arith)
          ∙ (ap (λ (x : ℕ). value_from (v * 10 + x) (leading l)) w ∙ i.value (v * 10 + z % 256));
      first = λ g. is;
    }))
    (cases_lt 9 (z % 256))
