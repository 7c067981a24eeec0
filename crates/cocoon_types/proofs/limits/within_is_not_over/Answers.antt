use Rattle.cocoon_types.proofs.Limiting as limiting
use Rattle.cocoon_types.proofs.limits.within_is_not_over.Goals as goal

pub returns : goal.returns
returns c = limiting.within_is_not_over
