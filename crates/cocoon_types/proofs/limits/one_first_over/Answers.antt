use Rattle.cocoon_types.proofs.Limiting as limiting
use Rattle.cocoon_types.proofs.limits.one_first_over.Goals as goal

pub returns : goal.returns
returns c = limiting.one_first_over
