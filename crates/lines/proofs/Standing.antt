-- Laws of bytes that stand at a place of a text: one byte, and two stretches side by side. Assumes nothing.
use Prim.Native.Nat.{ℕ, ◌+◌, ◌<◌}
use mathlib.Core.Path.{◌≡◌, sym, ap, ◌∙◌}
use mathlib.Core.List.{List, [], ◌∷◌, ◌++◌}
use lib.ListN.{length, get_or, drop, length-append}
use lib.Seq.{drop-cons, drop-drop, take-add}
use Rattle.lines.specs.Standing.{Stands}

pub one : (s : List ℕ) (at b : ℕ) → at < length s → get_or s at 0 ≡ b → Stands s at (b ∷ [])
one s at b h e = rw (drop-cons s at 0 h) (ap (λ (x : ℕ). x ∷ []) e)

pub join : (s : List ℕ) (at q : ℕ) (t u : List ℕ) → q ≡ at + length t → Stands s at t → Stands s q u
    → Stands s at (t ++ u)
join s at q t u e h k =
    let d : drop (length t) (drop at s) ≡ drop q s = drop-drop (length t) at s ∙ ap (λ (i : ℕ). drop i s) (sym e) in
    rw (length-append t u, take-add (length t) (length u) (drop at s), d, h, k)
