-- The lock listing, written: the lines of the model's listing (`boosting`), each with its LF, one behind the other, in
-- an order that is left open. Assumes nothing.
use Rattle.std.specs.Prelude.{ℕ, ◌≡◌, Bool, Result}
use mathlib.Core.List.{List, Perm, flatten}
use Rattle.refusals.specs.declared.Refusal.{Refusal}
use Rattle.buffers.specs.Written.{written_at}
use Rattle.boosting.specs.Locks.{Locks}
use Rattle.boosting.specs.Store.{Transaction}
use Rattle.boosting.specs.Listing.{mode_lines, modes_of, listing_of, listing_from}

-- the listing's lines, a permutation of them, at the place `at`, and every other byte as it was; or 14 and the buffer
-- as it was
pub record ListingWritten (ts : List Transaction) (at : ℕ) (before after : List ℕ) (r : Result ℕ Refusal) : Type 0 where
  pub lines : List (List ℕ)
  pub order : Perm lines (listing_from 1 ts)
  pub written : (r, after) ≡ written_at before at (flatten lines)

-- the order that the program takes: the line of a mode of transaction e, if it is held; the lines of its modes; those
-- of all its locks; and the lines of all eight
abbrev pub mode_text : ℕ → Bool → List ℕ → List ℕ
mode_text e held word = flatten (mode_lines e held word)

abbrev pub modes_text : ℕ → Locks → List ℕ
modes_text e l = flatten (modes_of e l)

abbrev pub locks_text : ℕ → Locks → List ℕ
locks_text e l = flatten (listing_of e l)

abbrev pub listing_text : List Transaction → List ℕ
listing_text ts = flatten (listing_from 1 ts)
