-- Laws of bytes as one number: the low bytes of a number tell the bytes, and what eight bytes at a place are.
-- Assumes nothing.
use Prim.Native.Nat.{ℕ, zero, suc, ◌+◌, ◌*◌, ◌/◌, ◌%◌, ◌^◌, ◌≤◌, ◌<◌}
use mathlib.Core.Path.{◌≡◌, refl, sym, ap, ap₂, ◌∙◌}
use mathlib.Core.Bool.{Bool, true, false, cond}
use mathlib.Core.List.{List, [], ◌∷◌}
use native.Mathlib.Nat.{pow-suc, one-le-pow, mod-one, zero-lt-suc, zero-mod}
use native.Mathlib.Omega.{arith}
use lib.Arith.{mod-mul}
use lib.Dec.{leb}
use lib.ListN.{length, get_or, take, drop}
use lib.Seq.{get_or-drop, length-take-le}
use borrow.Author.Tests.{leb-false, leb-true}
use Rattle.std.specs.Prelude.{Some, None}
use Rattle.eight_bytes.specs.Eight.{number_from, AllBytes, eight_at}

-- ---- lists of bytes
pub bytes_take : (n : ℕ) (l : List ℕ) → AllBytes l → AllBytes (take n l)
bytes_take zero l h = tt
bytes_take (suc n) [] h = tt
bytes_take (suc n) (b ∷ l) h = (h.0, bytes_take n l h.1)

all_bytes : (l : List ℕ) → ((i : ℕ) → get_or l i 0 < 256) → AllBytes l
all_bytes [] h = tt
all_bytes (b ∷ l) h = (h 0, all_bytes l (λ i. h (suc i)))

pub bytes_of_text : (s : List ℕ) (at n : ℕ) → ((i : ℕ) → get_or s i 0 < 256) → AllBytes (take n (drop at s))
bytes_of_text s at n h = bytes_take n (drop at s) (all_bytes (drop at s) (λ i. rw get_or-drop (h (at + i))))

-- ---- the low bytes of a number
low : (b m n : ℕ) → b < 256 → (b + 256 * m) % 256 ^ suc n ≡ b + 256 * (m % 256 ^ n)
low b m n h =
    let k = b + 256 * m in
    let d : k / 256 ≡ m = omega arith in
    let r : k % 256 ≡ b = omega arith in
    let e : k % (256 ^ n * 256) ≡ (k / 256 % 256 ^ n) * 256 + k % 256 =
    mod-mul k (one-le-pow n 256 (zero-lt-suc 255)) (zero-lt-suc 255) in
    ap (λ (x : ℕ). k % x) (pow-suc 256 n) ∙ (e ∙ rw (d, r) (omega arith))

pub number_take : (n : ℕ) (l : List ℕ) → AllBytes l → number_from l % 256 ^ n ≡ number_from (take n l)
number_take zero l h = mod-one (number_from l)
number_take (suc n) [] h = zero-mod (256 ^ suc n)
number_take (suc n) (b ∷ l) h = low b (number_from l) n h.0 ∙ ap (λ (x : ℕ). b + 256 * x) (number_take n l h.1)

-- lists of bytes of one length are told by their numbers
number_tells : (l t : List ℕ) → length l ≡ length t → AllBytes l → AllBytes t → number_from l ≡ number_from t → l ≡ t
number_tells [] [] e h k q = refl
number_tells [] (b ∷ t) e h k q = absurd (omega arith)
number_tells (b ∷ l) [] e h k q = absurd (omega arith)
number_tells (a ∷ l) (b ∷ t) e h k q =
    let first : a ≡ b = omega (arith, h.0, k.0) in
    let rest : number_from l ≡ number_from t = omega (arith, h.0, k.0) in
    let n : length l ≡ length t = omega arith in
    ap₂ (λ (x : ℕ) (y : List ℕ). x ∷ y) first (number_tells l t n h.1 k.1 rest)

pub low_bytes : (n : ℕ) (l t : List ℕ) → length t ≡ n → n ≤ length l → AllBytes l → AllBytes t
    → number_from l % 256 ^ n ≡ number_from t → take n l ≡ t
low_bytes n l t e m h k q =
    number_tells (take n l) t (length-take-le n l m ∙ sym e) (bytes_take n l h) k (sym (number_take n l h) ∙ q)

-- ---- eight bytes at a place, or none
module _ (s : List ℕ) (at : ℕ) where
  pub eight_found : (x : ℕ) → Some x ≡ eight_at s at → (at + 8 ≤ length s) × (x ≡ number_from (take 8 (drop at s)))
  eight_found x e = by_test (leb (at + 8) (length s)) refl e
    where
      by_test : (t : Bool) → leb (at + 8) (length s) ≡ t → Some x ≡ cond t (Some (number_from (take 8 (drop at s)))) None
          → (at + 8 ≤ length s) × (x ≡ number_from (take 8 (drop at s)))
      by_test true q r = (leb-true _ _ q, (cc))
      by_test false q r = absurd (cc)

  pub eight_none : None ≡ eight_at s at → length s < at + 8
  eight_none e = by_test (leb (at + 8) (length s)) refl e
    where
      by_test : (t : Bool) → leb (at + 8) (length s) ≡ t → None ≡ cond t (Some (number_from (take 8 (drop at s)))) None
          → length s < at + 8
      by_test true q r = absurd (cc)
      by_test false q r = leb-false _ _ q
