use Rattle.std.proofs.Common.{refl}
use Rattle.obligation_examples.proofs.round.formulas_of_q.Goals as goal

pub returns : goal.returns
returns c = refl
