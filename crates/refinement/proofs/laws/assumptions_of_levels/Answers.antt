use Rattle.refinement.proofs.AllLevels.{meets_above}
use Rattle.refinement.proofs.laws.assumptions_of_levels.Goals as goal

pub returns : goal.returns
returns c = meets_above
