-- The bytes of a number in base 256, lowest first, as the values of digits. Assumes nothing.
use Rattle.std.specs.Prelude.{ℕ, zero, suc, ◌+◌, ◌*◌, ◌/◌, ◌%◌, ◌≤◌, if◌then◌else◌, nat_le}

-- the first k bytes are at most 9
abbrev pub Digits : ℕ → ℕ → Type 0
Digits zero y = Unit {0}
Digits (suc k) y = (y % 256 ≤ 9) × Digits k (y / 256)

-- how many of the first k bytes stand before the first that is larger than 9
unfoldable pub small_bytes : ℕ → ℕ → ℕ
small_bytes zero y = 0
small_bytes (suc k) y = if nat_le (y % 256) 9 then suc (small_bytes k (y / 256)) else 0

-- the number of the first k bytes as digits, behind the digits of v
abbrev pub folded : ℕ → ℕ → ℕ → ℕ
folded zero v y = v
folded (suc k) v y = folded k (v * 10 + y % 256) (y / 256)
