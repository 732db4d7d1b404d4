use Rattle.std.proofs.Common.{arith}
use Rattle.checksum.proofs.Laws.{checksum_end, checksum_more}
use Rattle.checksum.proofs.Theorems.{entries_are_weights}
use Rattle.checksum.proofs.checksum_from.Goals as goal

pub loop-byte-preserved : goal.loop-byte-preserved
loop-byte-preserved c = grind (arith, checksum_more, entries_are_weights)

pub returns : goal.returns
returns c = grind (arith, checksum_end)
