use Rattle.p4_texts.proofs.BackWhole.{no_fault_back}
use Rattle.p4_texts.proofs.program_laws.program_has_no_fault.Goals as goal

pub returns : goal.returns
returns c = no_fault_back
