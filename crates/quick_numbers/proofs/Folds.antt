-- Laws of folding eight digits into their number: in pairs, then in fours, then all. Assumes nothing.
use Rattle.std.proofs.Common.{◌≡◌, ℕ, suc, ◌+◌, ◌-◌, ◌*◌, ◌/◌, ◌%◌, ◌^◌, ◌<◌, ◌≤◌, sym, refl, ap, ◌∙◌, mod-lt, arith, pow_pos, pow_mono}
use lib.Bits.{bit_and, and_block, and_mask, and_zero_r}
use lib.Pow.{split, high, low, mod-mod-pow, ones_lt}
use Rattle.quick_numbers.specs.Bytes.{Digits, folded}

-- ---- fields of w bits: every second one of a number, and the lowest apart from the others
every_second : (w t m : ℕ)
    → bit_and t (m * 2 ^ (w + w) + (2 ^ w - 1)) ≡ bit_and (t / 2 ^ (w + w)) m * 2 ^ (w + w) + t % 2 ^ w
every_second w t m =
    let k = w + w in
    let a = ones_lt w in
    let b = pow_mono {i = w} {j = k} (omega arith) in
    ap (λ (x : ℕ). bit_and x (m * 2 ^ k + (2 ^ w - 1))) (sym (split t k))
    ∙ (and_block k (t / 2 ^ k) m (t % 2 ^ k) (2 ^ w - 1) (mod-lt t (pow_pos k)) (omega arith)
    ∙ ap (λ (x : ℕ). bit_and (t / 2 ^ k) m * 2 ^ k + x) (and_mask (t % 2 ^ k) w ∙ mod-mod-pow t w w))

apart : (w t a b : ℕ) → a < 2 ^ w → t ≡ b * 2 ^ w + a → (t % 2 ^ w ≡ a) × (t / 2 ^ w ≡ b)
apart w t a b h e = (rw e (low b w h), rw e (high b w h))

-- ---- a step of each: two neighbours folded, and what stands behind them
pairs : (y m : ℕ) → Digits 3 y
    → bit_and (y * 10 + y / 256) (m * 65536 + 255)
    ≡ bit_and (y / 256 / 256 * 10 + y / 256 / 256 / 256) m * 65536 + (y % 256 * 10 + y / 256 % 256)
pairs y m d =
    let t = y * 10 + y / 256 in
    let e : t % 256 ≡ y % 256 * 10 + y / 256 % 256 = omega arith in
    let f : t / 65536 ≡ y / 256 / 256 * 10 + y / 256 / 256 / 256 = omega arith in
    every_second 8 t m ∙ rw (e, f) refl

fours : (p a b r m : ℕ) → a ≤ 99 → b ≤ 99 → r % 65536 ≤ 99 → p ≡ (r * 65536 + b) * 65536 + a
    → bit_and (p * 100 + p / 65536) (m * 4294967296 + 65535)
    ≡ bit_and (r * 100 + r / 65536) m * 4294967296 + (a * 100 + b)
fours p a b r m ha hb hr e =
    let t = p * 100 + p / 65536 in
    let x = r * 100 + r / 65536 in
    let n : p / 65536 ≡ r * 65536 + b = (apart 16 p a _ (omega arith) e).1 in
    let f : t ≡ (x * 65536 + (b * 100 + r % 65536)) * 65536 + (a * 100 + b) = omega arith in
    let g : t ≡ x * 4294967296 + ((b * 100 + r % 65536) * 65536 + (a * 100 + b)) = omega arith in
    every_second 16 t m ∙ rw ((apart 16 t _ _ (omega arith) f).0, (apart 32 t _ _ (omega arith) g).1) refl

halves : (q a b : ℕ) → a ≤ 9999 → b ≤ 9999 → q ≡ b * 4294967296 + a
    → (q * 10000 + q / 4294967296) % 4294967296 ≡ a * 10000 + b
halves q a b ha hb e =
    let d : q / 4294967296 ≡ b = (apart 32 q a b (omega arith) e).1 in
    let f : q * 10000 + q / 4294967296 ≡ b * 10000 * 4294967296 + (a * 10000 + b) = omega arith in
    (apart 32 (q * 10000 + q / 4294967296) _ _ (omega arith) f).0

-- ---- four pairs
pairs_folded : (p q a b c d : ℕ) → a ≤ 99 → b ≤ 99 → c ≤ 99 → d ≤ 99
    → p ≡ ((d * 65536 + c) * 65536 + b) * 65536 + a → q ≡ bit_and (p * 100 + p / 65536) 281470681808895
    → (q * 10000 + q / 4294967296) % 4294967296 ≡ (a * 100 + b) * 10000 + (c * 100 + d)
pairs_folded p q a b c d ha hb hc hd ep eq =
    let r = d * 65536 + c in
    let s : r % 65536 ≡ c = (apart 16 r c d (omega arith) refl).0 in
    let f = fours p a b r 65535 ha hb (omega arith) ep in
    let g : bit_and (r * 100 + r / 65536) 65535 ≡ c * 100 + d =
    fours r c d 0 0 hc hd (omega arith) (omega arith) ∙ omega arith in
    let e : q ≡ (c * 100 + d) * 4294967296 + (a * 100 + b) =
    eq ∙ (f ∙ ap (λ (x : ℕ). x * 4294967296 + (a * 100 + b)) g) in
    halves q (a * 100 + b) (c * 100 + d) (omega arith) (omega arith) e

-- ---- eight digits
three : (k y : ℕ) → Digits (suc (suc (suc k))) y → Digits 3 y
three k y d = (d.0, (d.1.0, (d.1.1.0, tt)))

pair_small : (k y : ℕ) → Digits (suc (suc k)) y → folded 2 0 y ≤ 99
pair_small k y d = let a = d.0 in let b = d.1.0 in omega arith

in_pairs : (y : ℕ)
    → (folded 2 0 y * 100 + folded 2 0 (y / 256 / 256)) * 10000
    + (folded 2 0 (y / 256 / 256 / 256 / 256) * 100 + folded 2 0 (y / 256 / 256 / 256 / 256 / 256 / 256))
    ≡ folded 8 0 y
in_pairs y = omega arith

pub all_folded : (y p q : ℕ) → Digits 8 y → y < 2 ^ 64 → p ≡ bit_and (y * 10 + y / 256) 71777214294589695
    → q ≡ bit_and (p * 100 + p / 65536) 281470681808895 → (q * 10000 + q / 4294967296) % 4294967296 ≡ folded 8 0 y
all_folded y p q d h ep eq =
    let y2 = y / 256 / 256 in
    let y4 = y2 / 256 / 256 in
    let y6 = y4 / 256 / 256 in
    let y8 = y6 / 256 / 256 in
    let d2 : Digits 6 y2 = d.1.1 in
    let d4 : Digits 4 y4 = d2.1.1 in
    let d6 : Digits 2 y6 = d4.1.1 in
    let a = pairs y 1095233372415 (three 5 y d) in
    let b = pairs y2 16711935 (three 3 y2 d2) in
    let c = pairs y4 255 (three 1 y4 d4) in
    let e = pairs y6 0 (d6.0, (d6.1.0, (omega arith, tt))) in
    let z = and_zero_r (y8 * 10 + y8 / 256) in
    let s : p ≡ ((folded 2 0 y6 * 65536 + folded 2 0 y4) * 65536 + folded 2 0 y2) * 65536 + folded 2 0 y =
    omega (arith, ep, a, b, c, e, z) in
    pairs_folded p q (folded 2 0 y) (folded 2 0 y2) (folded 2 0 y4) (folded 2 0 y6)
    (pair_small 6 y d)
    (pair_small 4 y2 d2)
    (pair_small 2 y4 d4)
    (pair_small 0 y6 d6)
    s
    eq
    ∙ in_pairs y
