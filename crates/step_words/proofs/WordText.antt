-- Bytes read as a word are its text; a text is told by its bytes one by one. Assumes nothing.
use Rattle.std.proofs.Common.{arith, refl, ◌∙◌, ◌≡◌, ℕ, suc, ◌+◌, List, [], ◌∷◌, Bool, true, false, cond, length, get_or, drop}
use Rattle.std.proofs.Math.ListN.{drop_of_length-le}
use Rattle.std.proofs.Math.Seq.{drop-cons}
use Rattle.std.proofs.lemmas.Slice.Eq.{bytes_eq-Decides}
use Rattle.std.specs.Prelude.{Some, find, bytes_eq}
use Rattle.step_words.specs.declared.Word.{Word}
use Rattle.step_words.specs.Word.{word_text, words, word_of}

-- the bytes of `l` from the place `at` on are those of the text
abbrev pub Reads : List ℕ → ℕ → List ℕ → Type 0
Reads l at [] = Unit {0}
Reads l at (b ∷ text) = (get_or l at 0 ≡ b) × Reads l (suc at) text

pub told : (l : List ℕ) (at : ℕ) (text : List ℕ) → at + length text ≡ length l → Reads l at text → drop at l ≡ text
told l at [] n r = drop_of_length-le l {i = at} (omega arith)
told l at (b ∷ text) n r = let rest = told l (suc at) text (omega arith) r.1 in drop-cons l at 0 (omega arith) ∙ cc (r.0)

-- what `find` finds passes its test
pub found : {A : Type 0} (test : A → Bool) (x : A) (xs : List A) → find test xs ≡ Some x → test x ≡ true
found test x [] e = absurd (cc)
found test x (y ∷ xs) e = by_test (test y) refl e (found test x xs)
  where
    by_test : (t : Bool) → test y ≡ t → cond t (Some y) (find test xs) ≡ Some x
        → (find test xs ≡ Some x → test x ≡ true) → test x ≡ true
    by_test true q e more = let same : y ≡ x = cc in rw same at q
    by_test false q e more = more e

-- the bytes that are read as a word are its text
pub is_word : (bytes : List ℕ) (word : Word) → word_of bytes ≡ Some word → bytes ≡ word_text word
unfolding word_of
is_word bytes word e =
    (bytes_eq-Decides bytes (word_text word)).0 (found (λ w. bytes_eq bytes (word_text w)) word words e)
