-- Laws of the first 256 of some words. Assumes nothing.
use Rattle.std.proofs.Common.{◌≡◌, ℕ, min, List, length, take, ap, ◌∙◌}
use Rattle.std.proofs.Math.Nat.{min_comm}
use Rattle.std.proofs.lemmas.List.{take_all, take_min}

pub few_taken : (n : ℕ) (ks : List ℕ) → n ≡ min (length ks) 256 → take n ks ≡ take 256 ks
few_taken n ks e = rw e (ap (λ (m : ℕ). take m ks) (min_comm (length ks) 256) ∙ take_min 256 ks)

pub ruleset take_rules = (few_taken, take_all)
