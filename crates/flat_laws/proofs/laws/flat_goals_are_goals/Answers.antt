use Rattle.flat_laws.proofs.Plain.{are-goals}
use Rattle.flat_laws.proofs.laws.flat_goals_are_goals.Goals as goal

pub returns : goal.returns
returns c = are-goals
