-- The digits of a number, as it is written: digits only, with no leading zero except 0 itself.
-- A digit d is the byte 48 + d. Assumes nothing.
use Rattle.std.specs.Prelude.{ℕ, zero, suc, ◌+◌, ◌/◌, ◌%◌, if◌then◌else◌, List, [], ◌∷◌, ◌++◌, nat_lt}

-- the digits of n, at most k + 1 of them
unfoldable pub digits_at : ℕ → ℕ → List ℕ
digits_at zero n = (48 + n % 10) ∷ []
digits_at (suc k) n = if nat_lt n 10 then (48 + n) ∷ [] else digits_at k (n / 10) ++ ((48 + n % 10) ∷ [])

-- the digits of n: twenty of them suffice for every number of 64 bits
abbrev pub digits_of : ℕ → List ℕ
digits_of n = digits_at 19 n
