-- `quick_numbers::number_of` meets its contract. A mask bounds what is multiplied next.
use Rattle.std.proofs.Common.{arith, refl}
use Rattle.quick_numbers.proofs.Folds.{all_folded}
use Rattle.quick_numbers.proofs.number_of.Goals as goal

pub returns : goal.returns
returns c = all_folded c.args.y _ _ c.requires (omega arith) refl refl
