-- Sorted lists of keys: order, rank, membership, insertion, deletion. Assumes nothing.
use Rattle.std.specs.Prelude.{ℕ, suc, ◌+◌, ◌≤◌, Bool, false, if◌then◌else◌, ◌||◌, List, [], ◌∷◌, nat_lt, nat_eq}

-- each key is at least b
abbrev pub From : ℕ → List ℕ → Type 0
From b [] = Unit {0}
From b (x ∷ xs) = (b ≤ x) × From b xs

-- each key is at least d above every earlier one: with d = 0 rising, with d = 1 strictly rising
abbrev pub Ordered : ℕ → List ℕ → Type 0
Ordered d [] = Unit {0}
Ordered d (x ∷ xs) = From (x + d) xs × Ordered d xs

-- how many keys stand before the first that is not below k
unfoldable pub rank_of : ℕ → List ℕ → ℕ
rank_of k [] = 0
rank_of k (x ∷ xs) = if nat_lt x k then suc (rank_of k xs) else 0

unfoldable pub member_of : ℕ → List ℕ → Bool
member_of k [] = false
member_of k (x ∷ xs) = nat_eq x k || member_of k xs

-- k before the first key that is not below it
unfoldable pub insert_of : ℕ → List ℕ → List ℕ
insert_of k [] = k ∷ []
insert_of k (x ∷ xs) = if nat_lt x k then x ∷ insert_of k xs else k ∷ x ∷ xs

-- without the first key that equals k
unfoldable pub delete_of : ℕ → List ℕ → List ℕ
delete_of k [] = []
delete_of k (x ∷ xs) = if nat_eq x k then xs else x ∷ delete_of k xs

-- k put in unless it is there
unfoldable pub put_once_of : ℕ → List ℕ → List ℕ
put_once_of k l = if member_of k l then l else insert_of k l
