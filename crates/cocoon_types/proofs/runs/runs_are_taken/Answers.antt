use Rattle.cocoon_types.proofs.Taking as taking
use Rattle.cocoon_types.proofs.runs.runs_are_taken.Goals as goal

pub returns : goal.returns
returns c = taking.runs_are_taken
