-- What a call leaves as it is, and the room for a key that comes in. Assumes nothing.
use Rattle.std.proofs.Common.{◌≡◌, ℕ, ◌<◌, ◌≤◌, true, false, cond, List, length, refl, arith}
use Rattle.tables.specs.Table.{member_of, insert_of, delete_of, put_once_of}
use Rattle.tables.proofs.Laws as tables
use Rattle.boosting.specs.Object.{State, add, remove, Reply, reply, is_yes, is_no}

-- a yes to an add says that the key is new
pub once-absent : (k : ℕ) (s : State) → is_yes ≡ reply (add k) s → put_once_of k s.script ≡ insert_of k s.script
unfolding put_once_of reply
once-absent k s e =
    elim (member_of k s.script) as (λ b. is_yes ≡ cond b is_no is_yes → cond b s.script (insert_of k s.script) ≡ insert_of k s.script)
    [ true ↦ λ h. cc | false ↦ λ h. refl ] e

-- another reply to it says that the key is there
pub once-present : (k : ℕ) (s : State) (r : Reply) → r ≡ reply (add k) s → (r ≡ is_yes → ⊥)
    → put_once_of k s.script ≡ s.script
unfolding put_once_of reply
once-present k s r e n =
    elim (member_of k s.script) as (λ b. r ≡ cond b is_no is_yes → cond b s.script (insert_of k s.script) ≡ s.script)
    [ true ↦ λ h. refl | false ↦ λ h. absurd (n h) ] e

-- another reply to a removal says that the key is not there
pub delete-absent : (k : ℕ) (s : State) (r : Reply) → r ≡ reply (remove k) s → (r ≡ is_yes → ⊥)
    → delete_of k s.script ≡ s.script
unfolding reply
delete-absent k s r e n =
    tables.delete_absent k s.script
    ((elim (member_of k s.script) as (λ b. r ≡ cond b is_yes is_no → b ≡ false)
    [ true ↦ λ h. absurd (n h) | false ↦ λ h. refl ]) e)

pub ruleset unchanged_rules = (once-absent, once-present, delete-absent)

pub insert-room : (k N : ℕ) (xs : List ℕ) → length (insert_of k xs) ≤ N → length xs < N
insert-room k N xs h = omega (arith, h, tables.length_insert k xs)

pub once-room : (k N : ℕ) (s : State) → is_yes ≡ reply (add k) s → length (put_once_of k s.script) ≤ N
    → length s.script < N
once-room k N s e h = insert-room k N s.script (rw (once-absent k s e) at h)
