use Rattle.std.proofs.Common.{refl}
use Rattle.obligation_examples.proofs.trees.leaves_are_many.Goals as goal

pub returns : goal.returns
returns c = record { seven = refl; eleven = refl; twelve = refl; reported = refl; most = refl }
