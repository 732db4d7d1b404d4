-- Laws of short lines: a word and a last number of one digit behind it. Assumes nothing.
use mathlib.Core.Path.{◌≡◌, refl, sym, ap, ◌∙◌}
use mathlib.Core.List.{List, [], ◌∷◌, ◌++◌}
use Prim.Native.Nat.{ℕ, ◌+◌, ◌≤◌, ◌<◌}
use native.Mathlib.Omega.{arith}
use native.Mathlib.Numerals.{unary_clauses}
use lib.ListN.{length, length-append, set}
use lib.Seq.{sets, sets-eq, length-sets}
use Rattle.std.specs.Prelude.{Result}
use Rattle.std.specs.Result.{result_unwrap_or}
use Rattle.refusals.specs.declared.Refusal.{Refusal}
use Rattle.buffers.specs.Written.{placed}
use Rattle.buffers.proofs.Laws.{sets-append, written}
use Rattle.lines.specs.Ascii.{bytes}
use Rattle.digits.specs.Digits.{digits_at}
use Rattle.digits.proofs.Laws.{digits_small}
use Rattle.records.specs.Record.{field_text, record_text}
use Rattle.short_answers.specs.Appended.{appended_at}

-- the number's one digit
pub one_digit : (n b : ℕ) → n < 10 → field_text n b ≡ (48 + n) ∷ b ∷ []
one_digit n b h = ap (λ (ds : List ℕ). ds ++ (b ∷ [])) (digits_small 19 n h)

-- the line's end, stored byte by byte
pub end_stored : (buf : List ℕ) (at n : ℕ) → at + 2 ≤ length buf → n < 10
    → set (set buf at (48 + n)) (at + 1) 10 ≡ placed buf at (field_text n 10)
end_stored buf at n h d =
    let by_sets : set (set buf at (48 + n)) (at + 1) 10 ≡ sets buf at ((48 + n) ∷ 10 ∷ []) = simp unary_clauses refl in
    by_sets ∙ (sets-eq ((48 + n) ∷ 10 ∷ []) buf at (omega arith) ∙ ap (placed buf at) (sym (one_digit n 10 d)))

-- a word and a last number of one digit
pub digit_line : (buf m₁ m₂ word : List ℕ) (at n k : ℕ) → length word ≡ k → at + 12 ≤ length buf → k ≤ 10
    → n < 10 → m₁ ≡ placed buf at word → m₂ ≡ placed m₁ (at + k) (field_text n 10)
    → (at + k + 2, m₂) ≡ appended_at buf at (word ++ field_text n 10)
digit_line buf m₁ m₂ word at n k ek h w d e₁ e₂ =
    let number = field_text n 10 in
    let l = ap length (one_digit n 10 d) in
    let a = length-append word number in
    let s₁ : m₁ ≡ sets buf at word = e₁ ∙ sym (sets-eq word buf at (omega arith)) in
    let room : length m₁ ≡ length buf = ap length s₁ ∙ length-sets buf at word in
    let s₂ : m₂ ≡ sets m₁ (at + k) number = e₂ ∙ sym (sets-eq number m₁ (at + k) (omega arith)) in
    let all : m₂ ≡ sets buf at (word ++ number) = s₂ ∙ rw (s₁, ← ek) (sym (sets-append word number buf at)) in
    ap (λ (p : Result ℕ Refusal × List ℕ). (result_unwrap_or p.0 at, p.1))
    (written buf m₂ (word ++ number) at (at + k + 2) (omega arith) (omega arith) all)

-- `refused,8,` is the word of a refusal 8
pub blocked_line : (e : ℕ) → record_text (bytes "refused") 8 e ≡ bytes "refused,8," ++ field_text e 10
unfolding record_text digits_at
blocked_line e = refl
