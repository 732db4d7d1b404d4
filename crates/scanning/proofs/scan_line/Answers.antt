-- `scanning::scan_line` meets its contract.
use Rattle.scanning.proofs.Ends.{past_the_end}
use Rattle.scanning.proofs.scan_line.Goals as goal

pub returns-then-text-at : goal.returns-then-text-at
returns-then-text-at c = past_the_end c.args.text.now c.args.at c.if-text-at.true
