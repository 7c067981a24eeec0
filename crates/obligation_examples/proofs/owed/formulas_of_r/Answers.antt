use Rattle.std.proofs.Common.{refl}
use Rattle.obligation_examples.proofs.owed.formulas_of_r.Goals as goal

pub returns : goal.returns
returns c = refl
