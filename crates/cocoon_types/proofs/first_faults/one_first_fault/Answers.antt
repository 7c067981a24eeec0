use Rattle.cocoon_types.proofs.FirstFaults as first
use Rattle.cocoon_types.proofs.first_faults.one_first_fault.Goals as goal

pub returns : goal.returns
returns c = first.one_first_fault
