-- The lines of a text.
-- Assumes nothing.
use Rattle.std.specs.Prelude.{ℕ, suc, if◌then◌else◌, List, [], ◌∷◌, nat_eq}

-- how many elements stand before the first `sep`; all of them where there is none
unfoldable pub up_to : ℕ → List ℕ → ℕ
up_to sep [] = 0
up_to sep (b ∷ bs) = if nat_eq b sep then 0 else suc (up_to sep bs)

-- the byte in front of the first line
unfoldable pub onto : ℕ → List (List ℕ) → List (List ℕ)
onto b [] = (b ∷ []) ∷ []
onto b (l ∷ ls) = (b ∷ l) ∷ ls

-- the lines of a text, each without its LF (10). The last LF may be missing, and a closing LF adds no empty line
unfoldable pub lines_of : List ℕ → List (List ℕ)
lines_of [] = []
lines_of (b ∷ bs) = if nat_eq b 10 then [] ∷ lines_of bs else onto b (lines_of bs)
