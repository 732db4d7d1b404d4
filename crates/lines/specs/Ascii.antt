-- Texts of the documents as bytes, so that definitions and examples can be read. Assumes nothing.
use Rattle.std.specs.Prelude.{ℕ, List, [], ◌∷◌}
use Prim.Native.Char.{code}
use Prim.Native.String.{String}
use Prim.Native.String.{[] as ε, ◌∷◌ as ◌◂◌}

-- the bytes of a text of ASCII characters
abbrev pub bytes : String → List ℕ
bytes ε = []
bytes (c ◂ s) = code c ∷ bytes s
