-- Bytes that stand at a place of a text. Assumes nothing.
use Rattle.std.specs.Prelude.{ℕ, ◌≡◌, List, length, take, drop}

abbrev pub Stands : List ℕ → ℕ → List ℕ → Type 0
Stands s at t = take (length t) (drop at s) ≡ t
