use Rattle.std.proofs.Common.{refl}
use Rattle.obligation_examples.proofs.owed.obligations_of_t.Goals as goal

pub returns : goal.returns
returns c = record { all = refl; insides = refl }
