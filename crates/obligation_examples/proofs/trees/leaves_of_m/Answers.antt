use Rattle.std.proofs.Common.{refl}
use Rattle.obligation_examples.proofs.trees.leaves_of_m.Goals as goal

pub returns : goal.returns
returns c = record { three = refl; two = refl }
