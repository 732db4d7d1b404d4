-- What holds of step lines; proved in `proofs/Theorems.antt`. Assumes nothing.
use Rattle.std.specs.Prelude.{◌≡◌, List, [], ℕ, Some, None}
use Rattle.steps.specs.declared.reading.Step.{Step}
use Rattle.steps.specs.Step.{step_of}
use Rattle.steps.specs.StepText.{step_text, NineDigitStep}

-- a step of numbers of at most nine digits, written and read, is the same step
abbrev pub StepWriteThenRead : Type 0
StepWriteThenRead = (s : Step) → NineDigitStep s → step_of (step_text s) ≡ Some s

-- the empty line, as which no step is written, is none
abbrev pub EmptyLineIsNoStep : Type 0
EmptyLineIsNoStep = step_of [] ≡ None

-- every line that is read as a step is that step's one written form
abbrev pub StepReadIsCanonical : Type 0
StepReadIsCanonical = (l : List ℕ) (s : Step) → step_of l ≡ Some s → (l ≡ step_text s) × NineDigitStep s
