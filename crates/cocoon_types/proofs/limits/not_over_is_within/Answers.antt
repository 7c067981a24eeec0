use Rattle.cocoon_types.proofs.Limiting as limiting
use Rattle.cocoon_types.proofs.limits.not_over_is_within.Goals as goal

pub returns : goal.returns
returns c = limiting.not_over_is_within
