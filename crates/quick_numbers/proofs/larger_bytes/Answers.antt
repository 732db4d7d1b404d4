-- `quick_numbers::larger_bytes` meets its contract.
use Rattle.std.proofs.Common.{refl}
use Rattle.quick_numbers.proofs.Digits.{small_told}
use Rattle.quick_numbers.proofs.larger_bytes.Goals as goal

pub returns : goal.returns
returns c = small_told c.args.z _ refl
