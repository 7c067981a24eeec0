use Rattle.std.proofs.Common.{refl}
use Rattle.flat_laws.proofs.examples.plain_goals_stay.Goals as goal

pub returns : goal.returns
returns c = refl
