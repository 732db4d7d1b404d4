-- What a writer's answer says of the bytes that it was asked to write. Assumes nothing.
use mathlib.Core.Path.{◌≡◌, sym, ◌∙◌}
use mathlib.Core.List.{List}
use Prim.Native.Nat.{ℕ, ◌+◌, ◌≤◌}
use native.Mathlib.Omega.{arith}
use lib.ListN.{length}
use lib.Seq.{sets}
use Rattle.std.specs.Prelude.{Result, Ok, Err}
use Rattle.refusals.specs.declared.Refusal.{Refusal}
use Rattle.buffers.specs.Written.{written_at}
use Rattle.buffers.proofs.Laws.{written_back}

-- bytes that fit: the writer put them there
pub put_there : (buf mid bytes : List ℕ) (r : Result ℕ Refusal) (at end : ℕ) → at + length bytes ≤ length buf
    → (r, mid) ≡ written_at buf at bytes → r ≡ Ok end → (end ≡ at + length bytes) × (mid ≡ sets buf at bytes)
put_there buf mid bytes r at end h e q =
    let w = written_back r buf mid bytes at h e in
    let u : Ok end ≡ Ok (at + length bytes) = sym q ∙ w.0 in
    ((cc), w.1)

-- and did not refuse
pub not_refused : (buf mid bytes : List ℕ) (r : Result ℕ Refusal) (at : ℕ) (why : Refusal) → at + length bytes ≤ length buf
    → (r, mid) ≡ written_at buf at bytes → r ≡ Err why → ⊥
not_refused buf mid bytes r at why h e q =
    let w = written_back r buf mid bytes at h e in
    let u : Err why ≡ Ok (at + length bytes) = sym q ∙ w.0 in
    let z : ◌≡◌ {A = ℕ} 0 1 = cc in
    omega arith
