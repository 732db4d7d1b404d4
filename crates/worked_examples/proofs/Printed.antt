-- What a writer left at the front of its buffer is the text that it was asked to write. Assumes nothing.
use mathlib.Core.Path.{◌≡◌}
use mathlib.Core.List.{List}
use Prim.Native.Nat.{ℕ, ◌+◌}
use native.Mathlib.Omega.{arith}
use lib.ListN.{length, take, drop}
use lib.Seq.{take-append_seam}
use Rattle.std.specs.Prelude.{Result, Ok}
use Rattle.std.proofs.lemmas.Bool.Decides.{nat_tests}
use Rattle.refusals.specs.declared.Refusal.{Refusal}
use Rattle.buffers.specs.Written.{written_at}

pub printed : (buf mid text : List ℕ) (r : Result ℕ Refusal) (end : ℕ) → (r, mid) ≡ written_at buf 0 text → r ≡ Ok end
    → take end mid ≡ text
unfolding written_at
printed buf mid text r end e q = grind (arith, nat_tests, take-append_seam text (drop (0 + length text) buf))
