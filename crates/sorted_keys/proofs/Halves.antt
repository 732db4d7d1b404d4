-- A search by halves: the rank is among the places that are left. Assumes nothing.
use Rattle.std.proofs.Common.{◌≡◌, ℕ, ◌+◌, ◌-◌, ◌*◌, ◌/◌, ◌^◌, ◌<◌, ◌≤◌, ◌∙◌, Bool, true, false, cond, ltb, List, length, get_or, refl, arith}
use Rattle.std.proofs.lemmas.Bool.{ltb-true, ltb-false}
use Rattle.tables.specs.Table.{Ordered, rank_of}
use Rattle.tables.proofs.Laws.{split}
use Rattle.sorted_keys.proofs.Ranks.{rising_at, rank_up, rank_down, rank_le}

-- the rank of k is among the `left` places behind `low`
pub record Around (k low left : ℕ) (l : List ℕ) : Type 0 where
  pub within : low + left ≤ length l
  pub above : low ≤ rank_of k l
  pub below : rank_of k l ≤ low + left

pub around-all : (k : ℕ) (l : List ℕ) → Around k 0 (length l) l
around-all k l = record { within = omega arith; above = omega arith; below = omega (arith, rank_le k l) }

-- a look at the end of the lower half
pub around-halved : (k low left half step : ℕ) (l : List ℕ) → 0 < half → half + half ≤ left → Ordered 0 l → Around k low left l
    → step ≡ cond (ltb (get_or l (low + half - 1) 0) k) half 0 → Around k (low + step) (left - half) l
around-halved k low left half step l some two o a e =
    let w = a.within in
    let f = a.above in
    let t = a.below in
    split (ltb (get_or l (low + half - 1) 0) k)
    (λ q.
    let s : step ≡ half = e ∙ rw q refl in
    let up = rank_up k l o (low + half - 1) (omega arith) (ltb-true _ _ q) in
    record { within = omega arith; above = omega arith; below = omega arith })
    (λ q.
    let s : step ≡ 0 = e ∙ rw q refl in
    let down = rank_down k l (low + half - 1) (omega arith) (ltb-false _ _ q) in
    record { within = omega arith; above = omega arith; below = omega arith })

-- the last look, at the one place left
pub around-one : (k low step : ℕ) (l : List ℕ) → Around k low 1 l → Ordered 0 l → step ≡ cond (ltb (get_or l low 0) k) 1 0
    → low + step ≡ rank_of k l
around-one k low step l a o e =
    let w = a.within in
    let f = a.above in
    let t = a.below in
    split (ltb (get_or l low 0) k)
    (λ q.
    let s : step ≡ 1 = e ∙ rw q refl in
    let up = rank_up k l o low (omega arith) (ltb-true _ _ q) in
    omega arith)
    (λ q.
    let s : step ≡ 0 = e ∙ rw q refl in
    let down = rank_down k l low (omega arith) (ltb-false _ _ q) in
    omega arith)

pub at_most_last : (l : List ℕ) (j : ℕ) → Ordered 0 l → j < length l → get_or l j 0 ≤ get_or l (length l - 1) 0
at_most_last l j o h = rising_at l o j (length l - 1) 0 (omega arith) (omega arith)

-- a key above the last is behind it
pub above-last : (k : ℕ) (l : List ℕ) → Ordered 0 l → 0 < length l → get_or l (length l - 1) 0 < k → length l ≡ rank_of k l
above-last k l o some h =
    let up = rank_up k l o (length l - 1) (omega arith) h in
    omega (arith, rank_le k l)

pub rank-none : (k : ℕ) (l : List ℕ) → length l ≡ 0 → 0 ≡ rank_of k l
rank-none k l h = omega (arith, rank_le k l)

pub ruleset halving_rules = (at_most_last, around-all, around-halved, around-one)

pub ruleset last_rules = (above-last, rank-none)

-- the top bit of a difference tells which of two numbers of 63 bits is less
pub top_bit : (other key : ℕ) → other < 2 ^ 63 → key < 2 ^ 63
    → (key + 0x7fff_ffff_ffff_ffff - other) / 2 ^ 63 ≡ cond (ltb other key) 1 0
top_bit other key a b =
    split (ltb other key)
    (λ e.
    let t : other < key = ltb-true other key e in
    rw e (omega arith))
    (λ e.
    let t : key ≤ other = ltb-false other key e in
    rw e (omega arith))

pub times_bit : (count : ℕ) (b : Bool) → count * cond b 1 0 ≡ cond b count 0
times_bit count true = omega arith
times_bit count false = omega arith

pub ruleset carry_rules = (top_bit, times_bit)
