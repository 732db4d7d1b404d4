-- `checksum::weights::table` meets its contract. Its one answer is the test of the whole table: antt computes the rule
-- at each of the 256 places and compares it with the entry there. `entries_are_weights` carries it to each entry.
use Rattle.std.proofs.Common.{refl}
use Rattle.checksum.specs.Checksum.{weights_from, weight_table}
use Rattle.checksum.proofs.weights.table.Goals as goal

pub returns : goal.returns
unfolding weights_from weight_table
returns c = refl
