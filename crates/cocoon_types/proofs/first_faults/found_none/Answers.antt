use Rattle.cocoon_types.proofs.FirstFaults as first
use Rattle.cocoon_types.proofs.first_faults.found_none.Goals as goal

pub returns : goal.returns
returns c = first.found_none
