-- A search through keys from the front: what is still to be looked at decides. Assumes nothing.
use Rattle.std.proofs.Common.{◌≡◌, ◌≢◌, ℕ, ◌+◌, ◌<◌, ◌≤◌, true, false, List, length, get_or, drop}
use Rattle.std.proofs.lemmas.Bool.{eq-eqb, ne_eqb}
use Rattle.std.proofs.lemmas.List.{drop_more, drop_all}
use Rattle.tables.specs.Table.{member_of}

module _ (k i : ℕ) (l : List ℕ) where
  pub member_found : i < length l → get_or l i 0 ≡ k → member_of k (drop i l) ≡ true
  unfolding member_of
  member_found h e = rw (drop_more l i 0 h, eq-eqb (get_or l i 0) k e)

  pub member_passed : i < length l → get_or l i 0 ≢ k → member_of k (drop (i + 1) l) ≡ member_of k (drop i l)
  unfolding member_of
  member_passed h e = rw (drop_more l i 0 h, ne_eqb (get_or l i 0) k e)

  pub member_over : length l ≤ i → member_of k (drop i l) ≡ false
  unfolding member_of
  member_over h = rw (drop_all i l h)

pub ruleset search_rules = (member_found, member_passed, member_over)
