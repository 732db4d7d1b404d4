-- Computed examples of the parts of a case. Assumes nothing.
use Rattle.std.specs.Prelude.{◌≡◌, refl, []}
use Rattle.lines.specs.Ascii.{bytes}
use Rattle.lines.specs.Lines.{up_to}
use Rattle.worked_examples.specs.Case.{input_of, expected_of}

-- the equals sign on a line of its own: the input ends with LF
with_lf : (input_of (bytes "# a name\n0,1,1\n=\nok\nscript,0\n") ≡ bytes "0,1,1\n")
    × (expected_of (bytes "# a name\n0,1,1\n=\nok\nscript,0\n") ≡ bytes "ok\nscript,0\n")
unfolding up_to
with_lf = (refl, refl)

-- at the end of a line: the input ends without it
without_lf : (input_of (bytes "# steps\nbegin,1=\nok\n") ≡ bytes "begin,1")
    × (expected_of (bytes "# steps\nbegin,1=\nok\n") ≡ bytes "ok\n")
unfolding up_to
without_lf = (refl, refl)

-- no input, and nothing behind the sign
without_parts : (input_of (bytes "# none\n=\n") ≡ []) × (expected_of (bytes "# none\n=\n") ≡ [])
unfolding up_to
without_parts = (refl, refl)

-- no sign: all behind the name is the input, and nothing is expected
without_sign : (input_of (bytes "# open\nsteps\n") ≡ bytes "steps\n") × (expected_of (bytes "# open\nsteps\n") ≡ [])
unfolding up_to
without_sign = (refl, refl)
