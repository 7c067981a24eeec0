use Rattle.cocoon_types.proofs.FirstFaults as first
use Rattle.cocoon_types.proofs.first_faults.earlier_phases.Goals as goal

pub returns : goal.returns
returns c = first.earlier_phases
