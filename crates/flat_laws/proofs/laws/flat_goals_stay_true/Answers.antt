use Rattle.flat_laws.proofs.Kept.{stays-true}
use Rattle.flat_laws.proofs.laws.flat_goals_stay_true.Goals as goal

pub returns : goal.returns
returns c = stays-true
