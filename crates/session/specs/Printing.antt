-- A text that is printed at a place of a buffer, and kept there or only counted. Assumes nothing.
use Rattle.std.specs.Prelude.{ℕ, ◌+◌, ◌≤◌, ◌≡◌, Bool, true, false, List, length}
use Rattle.std.proofs.lemmas.List.Edits.{sets}

-- the room that it needs: where it is kept, in the buffer. No text ends behind the longest output
pub record HasRoom (keep : Bool) (buf : List ℕ) (at : ℕ) (text : List ℕ) : Type 0 where
  pub in_count : at + length text ≤ 659860
  pub in_buffer : keep ≡ true → at + length text ≤ length buf

-- where answers are only counted, the buffer holds the longest line of one: each is put over the last
abbrev pub HoldsOneLine : Bool → List ℕ → Type 0
HoldsOneLine keep buf = keep ≡ false → 72 ≤ length buf

-- what is left: the place behind it; and where it is kept, it stands there, and every other byte is as it was
pub record Printed (keep : Bool) (buf : List ℕ) (at : ℕ) (text : List ℕ) (end : ℕ) (after : List ℕ) : Type 0 where
  pub place : end ≡ at + length text
  pub stored : keep ≡ true → after ≡ sets buf at text
