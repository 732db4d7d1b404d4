-- The parts of a case, as the code finds them by their places. Assumes nothing.
use Rattle.std.proofs.Common.{◌≡◌, ℕ, List, [], ◌∷◌, ◌+◌, ◌-◌, length, take, drop, refl, sym, ap, arith}
use Rattle.std.specs.Prelude.{suc, ◌≤◌, ◌==◌, nat_lt, nat_eq, Bool, true, false, cond, position, slice_range}
use Rattle.std.specs.Prelude.{Option, Some, None, MatchOption}
use Rattle.std.specs.List.{position_or_len}
use Rattle.std.proofs.lemmas.Bool.Decides.{nat_tests}
use Rattle.std.proofs.lemmas.List.Recursion.{is_position_or_len}
use Rattle.std.proofs.lemmas.List.{take_rest}
use lib.ListN.{drop_of_length-le}
use lib.Seq.{drop-drop}
use Rattle.lines.specs.Lines.{up_to}
use Rattle.lines.proofs.Laws.{up_le}
use Rattle.worked_examples.specs.Case.{behind_line, behind_name, input_of, expected_of}

-- ---- the line that goes on at a place
abbrev pub is_lf : ℕ → Bool
is_lf byte = byte == 10

up_to-is : (l : List ℕ) → up_to 10 l ≡ position_or_len is_lf l
unfolding up_to
up_to-is =
    is_position_or_len (up_to 10) is_lf refl (λ x xs.
    let e : suc (up_to 10 xs) ≡ 1 + up_to 10 xs = omega arith in
    ap (λ (n : ℕ). cond (is_lf x) 0 n) e)

by_test : (text : List ℕ) (at n : ℕ) (t : Bool) → n ≤ length (drop at text) → nat_lt n (length (drop at text)) ≡ t
    → MatchOption (cond t (Some n) None)
    (drop (length text) text ≡ drop (n + 1) (drop at text))
    (λ i. drop (at + i + 1) text ≡ drop (n + 1) (drop at text))
by_test text at n true h q =
    let e : at + n + 1 ≡ at + (n + 1) = omega arith in
    rw e (sym (drop-drop (n + 1) at text))
by_test text at n false h q =
    let past : length (drop at text) ≤ n + 1 = grind (arith, nat_tests) in
    rw (drop_of_length-le text {i = length text} (omega arith), drop_of_length-le (drop at text) past)

pub line_found : (text : List ℕ) (at : ℕ) (r : Option ℕ) → r ≡ position is_lf (slice_range text at (length text))
    → MatchOption r
    (drop (length text) text ≡ behind_line (drop at text))
    (λ i. drop (at + i + 1) text ≡ behind_line (drop at text))
line_found text at r e =
    let rest = drop at text in
    rw (e, take_rest text at, ← up_to-is rest) (by_test text at (up_to 10 rest) _ (up_le 10 rest) refl)

-- ---- the parts
-- the first such byte stands where the search for it ends
passed_one : (t : Bool) (sep b : ℕ) (bs : List ℕ) → nat_eq b sep ≡ t → up_to sep (drop (up_to sep bs) bs) ≡ 0
    → up_to sep (drop (cond t 0 (suc (up_to sep bs))) (b ∷ bs)) ≡ 0
unfolding up_to
passed_one true sep b bs e h = rw e
passed_one false sep b bs e h = h

passed : (sep : ℕ) (s : List ℕ) → up_to sep (drop (up_to sep s) s) ≡ 0
unfolding up_to
passed sep [] = refl
passed sep (b ∷ bs) = passed_one (nat_eq b sep) sep b bs refl (passed sep bs)

pub parts : (case : List ℕ) (name name_end input input_end output : ℕ) → name ≡ 0 + up_to 32 case
    → name_end ≡ name + up_to 10 (drop name case)
    → drop input case ≡ behind_line (drop name_end case)
    → input_end ≡ input + up_to 61 (drop input case)
    → drop output case ≡ behind_line (drop input_end case)
    → (take (input_end - input) (drop input case) ≡ input_of case) × (drop output case ≡ expected_of case)
parts case name name_end input input_end output en ee ei ef eo =
    let start : name ≡ up_to 32 case = omega arith in
    let u = up_to 10 (drop name case) in
    let line_end : drop name_end case ≡ drop u (drop name case) = rw (ee, drop-drop u name case) in
    let at_lf : up_to 10 (drop name_end case) ≡ 0 = rw line_end (passed 10 (drop name case)) in
    let next : name + u + 1 ≡ name + (u + 1) = omega arith in
    let begins : drop input case ≡ behind_name case =
    rw (ei, at_lf, drop-drop (0 + 1) name_end case, ee, next, ← drop-drop (u + 1) name case, start) in
    let w = up_to 61 (behind_name case) in
    let width : up_to 61 (drop input case) ≡ w = ap (up_to 61) begins in
    let length_is : input_end - input ≡ w = omega arith in
    let ends : drop input_end case ≡ drop w (behind_name case) =
    rw (ef, width, ← drop-drop w input case, begins) in
    (rw (length_is, begins), rw (eo, ends))
