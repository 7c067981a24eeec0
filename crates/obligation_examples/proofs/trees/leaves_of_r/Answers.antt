use Rattle.std.proofs.Common.{refl}
use Rattle.obligation_examples.proofs.trees.leaves_of_r.Goals as goal

pub returns : goal.returns
returns c = record { above = refl; refined = refl }
