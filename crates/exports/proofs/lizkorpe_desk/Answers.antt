-- `exports::lizkorpe_desk` meets its contract.
use Rattle.exports.proofs.lizkorpe_desk.Goals as goal

pub returns : goal.returns
returns c = rw (← c.run_session.ensures, c.answer_number.ensures)
