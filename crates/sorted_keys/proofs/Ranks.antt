-- What a look at one key says of a key's rank. Assumes nothing.
use Rattle.std.proofs.Common.{◌≡◌, ℕ, zero, suc, ◌+◌, ◌<◌, ◌≤◌, true, false, eqb, ltb, List, [], ◌∷◌, length, get_or, refl, ap, arith}
use Rattle.std.specs.List.Sorted.{IsPartitionPoint, IsPartitionedBy}
use Rattle.std.proofs.lemmas.List.Sorted.{IsPartitionedBy-ltb}
use Rattle.std.proofs.lemmas.Bool.{ltb-true, ltb-false, lt-ltb, le-ltb, ne_eqb, eqb-false}
use Rattle.tables.specs.Table.{From, Ordered, rank_of, member_of}
use Rattle.tables.proofs.Laws.{split, From-none, le_to_lt}

from_at : (b : ℕ) (l : List ℕ) → From b l → (i d : ℕ) → i < length l → b ≤ get_or l i d
from_at b [] f i d h = absurd (omega arith)
from_at b (x ∷ l) f zero d h = f.0
from_at b (x ∷ l) f (suc i) d h = from_at b l f.1 i d (omega arith)

-- a key is at most a later one
pub rising_at : (l : List ℕ) → Ordered 0 l → (i j d : ℕ) → i ≤ j → j < length l → get_or l i d ≤ get_or l j d
rising_at [] o i j d h lt = absurd (omega arith)
rising_at (x ∷ l) o zero zero d h lt = omega arith
rising_at (x ∷ l) o zero (suc j) d h lt = omega (arith, from_at (x + 0) l o.0 j d (omega arith))
rising_at (x ∷ l) o (suc i) zero d h lt = absurd (omega arith)
rising_at (x ∷ l) o (suc i) (suc j) d h lt = rising_at l o.1 i j d (omega arith) (omega arith)

pub rank_up : (k : ℕ) (l : List ℕ) → Ordered 0 l → (i : ℕ) → i < length l → get_or l i 0 < k → i < rank_of k l
unfolding rank_of
rank_up k [] o i h t = absurd (omega arith)
rank_up k (x ∷ l) o zero h t = rw (lt-ltb x k t) (omega arith)
rank_up k (x ∷ l) o (suc i) h t =
    let ih : i < rank_of k l = rank_up k l o.1 i (omega arith) t in
    let lt : x < k = omega (arith, from_at (x + 0) l o.0 i 0 (omega arith)) in
    rw (lt-ltb x k lt) (omega arith)

pub rank_down : (k : ℕ) (l : List ℕ) (i : ℕ) → i < length l → k ≤ get_or l i 0 → rank_of k l ≤ i
unfolding rank_of
rank_down k [] i h t = absurd (omega arith)
rank_down k (x ∷ l) zero h t = rw (le-ltb x k t) (omega arith)
rank_down k (x ∷ l) (suc i) h t =
    let ih : rank_of k l ≤ i = rank_down k l i (omega arith) t in
    split (ltb x k) (λ e. rw e (omega arith)) (λ e. rw e (omega arith))

pub rank_le : (k : ℕ) (l : List ℕ) → rank_of k l ≤ length l
unfolding rank_of
rank_le k [] = omega arith
rank_le k (x ∷ l) =
    let ih : rank_of k l ≤ length l = rank_le k l in
    split (ltb x k) (λ e. rw e (omega arith)) (λ e. rw e (omega arith))

pub member_rank : (k : ℕ) (l : List ℕ) → Ordered 0 l → rank_of k l < length l → eqb (get_or l (rank_of k l) 0) k ≡ member_of k l
unfolding rank_of member_of
member_rank k [] o h = absurd (omega arith)
member_rank k (x ∷ l) o h =
    split (ltb x k)
    (λ e.
    let below : x < k = ltb-true x k e in
    let h2 : suc (rank_of k l) < suc (length l) = rw e at h in
    rw (e, ne_eqb x k (λ q. omega (arith, below, q))) (member_rank k l o.1 (omega (arith, h2))))
    (λ e.
    split (eqb x k) (λ q. rw (e, q) refl)
    (λ q. rw (e, q, From-none k (x + 0) l o.0 (le_to_lt x k (ltb-false x k e) (eqb-false x k q))) refl))

-- i is the rank of k where all before i are below k, and none from i on
rank_is : (k i : ℕ) (l : List ℕ) → i ≤ length l → ((j : ℕ) → j < i → get_or l j 0 < k)
    → ((j : ℕ) → i ≤ j → j < length l → k ≤ get_or l j 0) → i ≡ rank_of k l
unfolding rank_of
rank_is k i [] h below above = omega arith
rank_is k zero (x ∷ l) h below above =
    let here : k ≤ x = above 0 (omega arith) (omega arith) in
    rw (le-ltb x k here) refl
rank_is k (suc i) (x ∷ l) h below above =
    let here : x < k = below 0 (omega arith) in
    rw (lt-ltb x k here)
    (ap suc (rank_is k i l (omega arith) (λ j m. below (suc j) (omega arith)) (λ j g m. above (suc j) (omega arith) (omega arith))))

pub partitioned : (k : ℕ) (l : List ℕ) → Ordered 0 l → IsPartitionedBy (λ y. ltb y k) l
partitioned k l o = IsPartitionedBy-ltb (λ x. x) l k (rising_at l o)

-- what the library's search finds is the rank
pub rank_partition : (k i : ℕ) (l : List ℕ) → i ≤ length l
    → IsPartitionPoint (λ y. ltb y k ≡ true) (λ y. ltb y k ≡ false) l i → i ≡ rank_of k l
rank_partition k i l h p = rank_is k i l h (λ j m. ltb-true _ _ (p.0 j 0 (omega arith) m)) (λ j g m. ltb-false _ _ (p.1 j 0 g m))
