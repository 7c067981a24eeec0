use Rattle.refinement.proofs.Ways.{same_go}
use Rattle.refinement.proofs.laws.ways_are_runs.Goals as goal

pub returns : goal.returns
returns c = same_go
