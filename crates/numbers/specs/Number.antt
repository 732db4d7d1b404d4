-- The number that the bytes of a field stand for. Assumes nothing.
use Rattle.std.specs.Prelude.{ℕ, ◌+◌, ◌*◌, ◌-◌, ◌<◌, if◌then◌else◌, List, [], ◌∷◌, nat_lt, nat_eq, length, slice_index}
use Rattle.std.specs.Prelude.{Option, Some, None, IfSome}

-- the value of digits behind those that stand for n; none where a byte is no digit
unfoldable pub value_from : ℕ → List ℕ → Option ℕ
value_from n [] = Some n
value_from n (b ∷ bs) =
    if nat_lt b 48 then None else if nat_lt 57 b then None else value_from (n * 10 + (b - 48)) bs

-- 1 to 9 digits with no leading zero except 0 itself; anything else is no number
unfoldable pub number_of : List ℕ → Option ℕ
number_of s =
    if nat_eq (length s) 0 then None
    else if nat_lt 9 (length s) then None
    else if nat_eq (length s) 1 then value_from 0 s
    else if nat_eq (slice_index s 0) 48 then None else value_from 0 s

-- a value has at most nine digits
abbrev pub NineDigits : Option ℕ → Type 0
NineDigits number = IfSome number (λ n. n < 1000000000)
