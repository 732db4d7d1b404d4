-- Laws of `seek`: no line, the line sought, and a line before it. Assumes nothing.
use Rattle.std.proofs.Common.{◌≡◌, ℕ, zero, suc, ◌+◌, ◌-◌, List, [], ◌∷◌, length, Ok, Err, refl, ap, sym}
use native.Mathlib.Numerals.{sub-one}
use Rattle.lines.specs.Line.{line_to}
use Rattle.numbered_lines.specs.Numbered.{seek}

pub seek_none : (at k : ℕ) → seek at [] k ≡ Err k
unfolding seek
seek_none at k = refl

pub seek_here : (at k : ℕ) (l : List ℕ) (ls : List (List ℕ)) → k ≡ 0 → seek at (l ∷ ls) k ≡ Ok (line_to at (at + length l))
unfolding seek
seek_here at k l ls e = rw e refl

pub seek_later : (at k : ℕ) (l : List ℕ) (ls : List (List ℕ)) → (k ≡ 0 → ⊥)
    → seek at (l ∷ ls) k ≡ seek (at + length l + 1) ls (k - 1)
unfolding seek
seek_later at zero l ls n = absurd (n refl)
seek_later at (suc j) l ls n = ap (seek (at + length l + 1) ls) (sym (sub-one (suc j)))

pub ruleset seek_rules = (seek_none, seek_here, seek_later)
