-- What a move of words up or down by one leaves at the front of an array.
use Rattle.std.proofs.Common.{◌≡◌, ℕ, suc, ◌+◌, ◌-◌, ◌<◌, ◌≤◌, List, [], ◌∷◌, ◌++◌, length, get_or, take, drop, set, refl, ap, ◌∙◌, sym, arith, length-append, length-drop, length-set, length-take-le, append_assoc, subst}
use Rattle.std.specs.List.{insert, remove}
use Rattle.std.specs.List.{copy_within}
use Rattle.std.proofs.Math.Seq.{paste}
use Rattle.std.proofs.lemmas.List.{take_at, set_at, take_more, set-append_left, take-take, drop-take}
use Rattle.std.proofs.lemmas.List.Edits.{take-paste}

-- the first words with a new one behind them, then those that moved up
module _ (i m k : ℕ) (xs : List ℕ) (room : i + m < length xs) where
  written : set (take (i + 1) xs) i k ≡ take i xs ++ k ∷ []
  written =
      let here : i < length xs = omega arith in
      rw (take_more xs i 0 here) (set_at (take i xs) (get_or xs i 0) [] k i (length-take-le i xs (omega arith)))

  moved_up : take (i + m + 1) (set (paste xs (i + 1) (drop i xs) m) i k) ≡ take i xs ++ k ∷ take m (drop i xs)
  moved_up =
      let long : length (take (i + 1) xs) ≡ i + 1 = length-take-le (i + 1) xs (omega arith) in
      let rest : length (take m (drop i xs)) ≡ m = length-take-le m (drop i xs) (omega (arith, length-drop i xs)) in
      let front : i < length (take (i + 1) xs) = omega arith in
      let both : i < length (take (i + 1) xs ++ take m (drop i xs)) = omega (arith, length-append (take (i + 1) xs) (take m (drop i xs))) in
      let wide : length ((take i xs ++ k ∷ []) ++ take m (drop i xs)) ≡ i + m + 1 =
      ap length (ap (λ (l : List ℕ). l ++ take m (drop i xs)) (sym written)) ∙ omega (arith, length-append (set (take (i + 1) xs) i k) (take m (drop i xs)), length-set (take (i + 1) xs) i k) in
      ap (take (i + m + 1)) (set-append_left (take (i + 1) xs ++ take m (drop i xs)) (drop (i + 1 + m) xs) i k both ∙ ap (λ (l : List ℕ). l ++ drop (i + 1 + m) xs) (set-append_left (take (i + 1) xs) (take m (drop i xs)) i k front ∙ ap (λ (l : List ℕ). l ++ take m (drop i xs)) written))
      ∙ take_at _ (drop (i + 1 + m) xs) (i + m + 1) wide ∙ append_assoc (take i xs) (k ∷ []) (take m (drop i xs))

pub take-moved_up : (n i k : ℕ) (xs : List ℕ) → i ≤ n → n < length xs → take (n + 1) (set (copy_within xs i n (i + 1)) i k) ≡ insert (take n xs) i k
take-moved_up n i k xs h g =
    let all : i + (n - i) ≡ n = omega arith in
    let F : ℕ → Type 0 = λ a. take (a + 1) (set (copy_within xs i n (i + 1)) i k) ≡ take i xs ++ k ∷ take (n - i) (drop i xs) in
    let G : ℕ → Type 0 = λ a. drop i (take a xs) ≡ take (n - i) (drop i xs) in
    subst F all (moved_up i (n - i) k xs (omega arith))
    ∙ rw (take-take i n xs h, subst G all (drop-take i (n - i) xs)) refl

pub take-moved_down : (n i : ℕ) (xs : List ℕ) → i < n → n ≤ length xs → take (n - 1) (copy_within xs (i + 1) n i) ≡ remove (take n xs) i
take-moved_down n i xs h g =
    let short : i + (n - (i + 1)) ≡ n - 1 = omega arith in
    let all : suc i + (n - (i + 1)) ≡ n = omega arith in
    let F : ℕ → Type 0 = λ a. take a (copy_within xs (i + 1) n i) ≡ take i xs ++ take (n - (i + 1)) (drop (i + 1) xs) in
    let G : ℕ → Type 0 = λ a. drop (suc i) (take a xs) ≡ take (n - (i + 1)) (drop (suc i) xs) in
    let below : i ≤ n = omega arith in
    subst F short (take-paste xs i (drop (i + 1) xs) (n - (i + 1)) (omega arith) (omega (arith, length-drop (i + 1) xs)))
    ∙ rw (take-take i n xs below, subst G all (drop-take (suc i) (n - (i + 1)) xs)) (ap (λ (j : ℕ). take i xs ++ take (n - (i + 1)) (drop j xs)) (let e : i + 1 ≡ suc i = omega arith in e))
