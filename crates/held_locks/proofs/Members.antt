-- The library's search of a slice finds a key where it is a member. Assumes nothing.
use Rattle.std.proofs.Common.{◌≡◌, ℕ, Bool, List, [], ◌∷◌, ◌==◌, ◌||◌, refl, ap, ◌∙◌}
use Rattle.std.specs.List.{list_any}
use Rattle.tables.specs.Table.{member_of}

any_member : (k : ℕ) (l : List ℕ) → list_any (λ x. x == k) l ≡ member_of k l
unfolding member_of
any_member k [] = refl
any_member k (x ∷ l) = ap (λ b. x == k || b) (any_member k l)

pub member_any : (k : ℕ) (l m : List ℕ) (b : Bool) → l ≡ m → b ≡ list_any (λ x. x == k) l → b ≡ member_of k m
member_any k l m b e h = h ∙ any_member k l ∙ ap (member_of k) e
