-- Keys that come and go at their ranks. Assumes nothing.
use Rattle.std.proofs.Common.{◌≡◌, ℕ, zero, suc, ◌+◌, true, false, List, [], ◌∷◌, arith}
use Rattle.std.specs.List.{insert, remove}
use Rattle.tables.specs.Table.{From, Ordered, rank_of, member_of, insert_of, delete_of, put_once_of}
use Rattle.tables.proofs.Laws as tables
use Rattle.sorted_keys.specs.Least.{others_of}
use Rattle.sorted_keys.proofs.Ranks.{rank_le, member_rank}

pub insert-rank : (k : ℕ) (l : List ℕ) → insert_of k l ≡ insert l (rank_of k l) k
insert-rank k l = tables.insert_split k l

pub delete-rank : (k : ℕ) (l : List ℕ) → Ordered 0 l → member_of k l ≡ true → delete_of k l ≡ remove l (rank_of k l)
delete-rank k l o m = tables.delete_split k l o m

pub inserted-Ordered : (k i : ℕ) (l m : List ℕ) → m ≡ insert l i k → i ≡ rank_of k l → Ordered 0 l → Ordered 0 m
inserted-Ordered k i l m e r o = rw (e, r, ← insert-rank k l) (tables.insert_ordered 0 k l (omega arith) (tables.Apart-zero k l) o)

remove-From : (b i : ℕ) (l : List ℕ) → From b l → From b (remove l i)
remove-From b i [] f = elim i as (λ n. From b (remove [] n)) [ zero ↦ tt | suc n ↦ tt ]
remove-From b zero (x ∷ l) f = f.1
remove-From b (suc i) (x ∷ l) f = (f.0, remove-From b i l f.1)

remove-Ordered : (i : ℕ) (l : List ℕ) → Ordered 0 l → Ordered 0 (remove l i)
remove-Ordered i [] o = elim i as (λ n. Ordered 0 (remove [] n)) [ zero ↦ tt | suc n ↦ tt ]
remove-Ordered zero (x ∷ l) o = o.1
remove-Ordered (suc i) (x ∷ l) o = (remove-From (x + 0) i l o.0, remove-Ordered i l o.1)

pub removed-Ordered : (i : ℕ) (l m : List ℕ) → m ≡ remove l i → Ordered 0 l → Ordered 0 m
removed-Ordered i l m e o = rw e (remove-Ordered i l o)

pub others-Ordered : (l m : List ℕ) → m ≡ others_of l → Ordered 0 l → Ordered 0 m
others-Ordered [] m e o = rw e tt
others-Ordered (x ∷ l) m e o = rw e o.1

-- putting in once is leaving what is there as it is, and inserting what is not
pub once-there : (k : ℕ) (l : List ℕ) → member_of k l ≡ true → put_once_of k l ≡ l
unfolding put_once_of
once-there k l h = rw h

pub once-new : (k : ℕ) (l : List ℕ) → member_of k l ≡ false → put_once_of k l ≡ insert_of k l
unfolding put_once_of
once-new k l h = rw h

pub ruleset keys_rules = (
  rank_le,
  tables.member_end,
  tables.member_below,
  member_rank,
  insert-rank,
  delete-rank,
  tables.delete_absent,
  tables.length_insert,
  inserted-Ordered,
  removed-Ordered,
  others-Ordered,
  once-there,
  once-new,
)
