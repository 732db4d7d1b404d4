-- The two parts of a case, as the file `stdin` has it: behind `#` and a space the name, on the next lines the input up
-- to `=`, and behind that line the output. Assumes nothing.
use Rattle.std.specs.Prelude.{ℕ, ◌+◌, List, take, drop}
use Rattle.lines.specs.Lines.{up_to}

-- what stands behind the first LF (10); nothing where there is none
abbrev pub behind_line : List ℕ → List ℕ
behind_line s = drop (up_to 10 s + 1) s

-- what stands behind the line of the name, which begins at the first space (32)
abbrev pub behind_name : List ℕ → List ℕ
behind_name case = behind_line (drop (up_to 32 case) case)

-- the input: what stands there in front of the first `=` (61)
abbrev pub input_of : List ℕ → List ℕ
input_of case = take (up_to 61 (behind_name case)) (behind_name case)

-- the output that has to come: what stands behind the line of that `=`
abbrev pub expected_of : List ℕ → List ℕ
expected_of case = behind_line (drop (up_to 61 (behind_name case)) (behind_name case))
