use Rattle.std.proofs.Common.{refl}
use Rattle.obligation_examples.proofs.trees.leaves_of_ways.Goals as goal

pub returns : goal.returns
returns c = record { one = refl; three = refl; next = refl }
