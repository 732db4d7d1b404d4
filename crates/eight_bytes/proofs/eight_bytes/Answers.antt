-- `eight_bytes::eight_bytes` meets its contract: the bytes of a text are below 256.
use Rattle.std.proofs.Common.{arith}
use Rattle.eight_bytes.proofs.Laws.{bytes_of_text}
use Rattle.eight_bytes.proofs.eight_bytes.Goals as goal

pub returns-clause-bytes : goal.returns-clause-bytes
returns-clause-bytes c = λ room. bytes_of_text c.args.text.now c.args.at 8 (λ i. omega (arith, c.type_inv.text i))
