use Rattle.std.proofs.Common.{refl}
use Rattle.obligation_examples.proofs.trees.leaves_of_t.Goals as goal

pub returns : goal.returns
returns c = record { leaves = refl; insides = refl; way = refl }
