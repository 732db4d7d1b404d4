-- The plain meaning of the sorted lists: a set, and a collection whose first cue is the least. Assumes nothing.
use Prim.Native.Nat.{ℕ, suc, ◌+◌, ◌≤◌}
use mathlib.Core.Path.{◌≡◌, refl}
use mathlib.Core.Bool.{true, cond, not, ◌&&◌}
use mathlib.Core.List.{List, [], ◌∷◌}
use native.Mathlib.Omega.{arith}
use lib.Dec.{eqb}
use Rattle.std.proofs.lemmas.Bool.{cases_eq}
use Rattle.tables.specs.Table.{Ordered, member_of, insert_of, delete_of}
use Rattle.tables.proofs.Laws.{member_once, member_delete_other, member_from}
use Rattle.boosting.specs.Object.{is_cue, least, effect, reply}
use Rattle.boosting.specs.Theorems.{count_of, PlainMeaning, CallsArePlain}
use Rattle.boosting.proofs.Sorted.{member_delete_self}

remove_member : (j k : ℕ) (x : List ℕ) → Ordered 1 x → member_of j (delete_of k x) ≡ (not (eqb k j) && member_of j x)
remove_member j k x o = grind (arith, cases_eq k j, member_delete_self k x o, member_delete_other j k x)

push_count : (j k : ℕ) (q : List ℕ) → count_of j (insert_of k q) ≡ cond (eqb k j) (suc (count_of j q)) (count_of j q)
unfolding count_of insert_of
push_count j k [] = refl
push_count j k (x ∷ q) = grind (arith, push_count j k q)

take_count : (j k : ℕ) (q : List ℕ) → count_of j (k ∷ q) ≡ cond (eqb k j) (suc (count_of j q)) (count_of j q)
unfolding count_of
take_count j k q = refl

-- the inverse of a push takes out one equal cue and no more
undo_push_count : (j k : ℕ) (q : List ℕ) → member_of k q ≡ true
    → count_of j q ≡ cond (eqb k j) (suc (count_of j (delete_of k q))) (count_of j (delete_of k q))
unfolding count_of member_of delete_of
undo_push_count j k [] m = cc
undo_push_count j k (x ∷ q) m = grind (arith, undo_push_count j k q)

member_count : (k : ℕ) (q : List ℕ) → member_of k q ≡ not (eqb (count_of k q) 0)
unfolding member_of count_of
member_count k [] = refl
member_count k (x ∷ q) = grind (arith, member_count k q)

pub plain_meaning : PlainMeaning
plain_meaning = record {
  add_member = member_once;
  remove_member = remove_member;
  push_count = push_count;
  take_count = take_count;
  undo_push_count = undo_push_count;
  member_count = member_count;
  least = λ j k q o m. omega (arith, member_from (k + 0) j q o.0 m);
}

-- ---- the calls

-- what `min` and `take` find stands in the queue, and nothing below it
least_found : (j k : ℕ) (q : List ℕ) → Ordered 0 q → least q ≡ is_cue k
    → (member_of k q ≡ true) × (member_of j q ≡ true → k ≤ j)
unfolding member_of
least_found j k [] o e = cc
least_found j k (x ∷ q) o e = grind (arith, member_from (x + 0) j q o.0)

pub calls_are_plain : CallsArePlain
unfolding effect reply
calls_are_plain s r o = record {
  add_set = λ j k. member_once j k s.script;
  remove_set = λ j k. remove_member j k s.script r;
  push_one_more = λ j k. push_count j k s.queue;
  take_one = λ j k q e. rw e (take_count j k q);
  least_stands = λ k e. (least_found k k s.queue o e).0;
  least_found = λ j k e. (least_found j k s.queue o e).1;
  empty_exactly = grind arith;
  min_is_take = refl;
  looks_change_nothing = λ k. (refl, refl);
}
