use Rattle.cocoon_types.proofs.FirstFaults as first
use Rattle.cocoon_types.proofs.first_faults.first_or_well_formed.Goals as goal

pub returns : goal.returns
returns c = record { either = first.either; never_both = first.never_both }
