-- `exports::lizkorpe_format` meets its contract.
use Rattle.exports.proofs.lizkorpe_format.Goals as goal

pub returns : goal.returns
returns c = rw (← c.write_report.ensures, c.answer_number.ensures)
