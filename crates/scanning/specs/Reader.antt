-- What a step reader has still to give. Assumes nothing.
use Rattle.std.specs.Prelude.{List, map, drop, Option}
use Rattle.lines.specs.Lines.{lines_of}
use Rattle.steps.specs.declared.reading.Step.{Step}
use Rattle.steps.specs.Step.{step_of}
use Rattle.scanning.specs.declared.reader.StepReader.{StepReader}

-- the steps of the lines from the reader's place on; none for a line that is no step
abbrev pub steps_left : StepReader → List (Option Step)
steps_left reader = map step_of (lines_of (drop reader.at reader.text.now))
