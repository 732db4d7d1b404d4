-- The first key of a list, which is the least of a rising one, and the others. Assumes nothing.
use Rattle.std.specs.Prelude.{ℕ, List, [], ◌∷◌, Option, Some, None}

abbrev pub least_of : List ℕ → Option ℕ
least_of [] = None
least_of (k ∷ keys) = Some k

abbrev pub others_of : List ℕ → List ℕ
others_of [] = []
others_of (k ∷ keys) = keys
