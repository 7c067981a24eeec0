use Rattle.std.proofs.Common.{refl}
use Rattle.obligation_examples.proofs.owed.formulas_of_m_and_three.Goals as goal

pub returns : goal.returns
returns c = record { m = refl; three = refl }
