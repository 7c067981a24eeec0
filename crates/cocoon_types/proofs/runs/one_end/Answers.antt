use Rattle.cocoon_types.proofs.Taking as taking
use Rattle.cocoon_types.proofs.runs.one_end.Goals as goal

pub returns : goal.returns
returns c = taking.one_end
