-- Laws of cues: what a cue in range keeps to. Assumes nothing.
use mathlib.Core.Path.{◌≡◌, refl}
use mathlib.Core.Bool.{Bool, true, false, ◌&&◌}
use Prim.Native.Nat.{ℕ, ◌≤◌}
use native.Mathlib.Omega.{arith}
use lib.Dec.{leb}
use borrow.Author.Tests.{leb-true}
use Rattle.cues.specs.Cue.{in_range}

true-false : false ≡ true → ⊥
true-false q = let z : ◌≡◌ {A = ℕ} 0 1 = cc in omega arith

-- ---- the range of three numbers
pub record Bounds (t m p : ℕ) : Type 0 where
  pub time : t ≤ 3599999
  pub module_low : 1 ≤ m
  pub module_high : m ≤ 99
  pub pin_low : 1 ≤ p
  pub pin_high : p ≤ 32

pub bounds : (t m p : ℕ) → in_range t m p ≡ true → Bounds t m p
bounds t m p e = by_tests (leb t 3599999) (leb 1 m) (leb m 99) (leb 1 p) (leb p 32) refl refl refl refl refl e
  where
    by_tests : (a b c d f : Bool) → leb t 3599999 ≡ a → leb 1 m ≡ b → leb m 99 ≡ c → leb 1 p ≡ d → leb p 32 ≡ f
        → a && (b && c) && (d && f) ≡ true → Bounds t m p
    by_tests true true true true true ea eb ec ed ef q = record {
      time = leb-true _ _ ea;
      module_low = leb-true _ _ eb;
      module_high = leb-true _ _ ec;
      pin_low = leb-true _ _ ed;
      pin_high = leb-true _ _ ef;
    }
    by_tests false b c d f ea eb ec ed ef q = absurd (true-false q)
    by_tests true false c d f ea eb ec ed ef q = absurd (true-false q)
    by_tests true true false d f ea eb ec ed ef q = absurd (true-false q)
    by_tests true true true false f ea eb ec ed ef q = absurd (true-false q)
    by_tests true true true true false ea eb ec ed ef q = absurd (true-false q)
