use Rattle.cocoon_num.specs.FirstFaults.{BeginsDefs, BeginsDesign}
use Rattle.cocoon_text.proofs.OneFault.{definitions_begin, designs_begin, one_first_fault}
use Rattle.cocoon_text.proofs.laws.one_fault.Goals as goal

pub returns-clause-designs : goal.returns-clause-designs
returns-clause-designs c = one_first_fault BeginsDesign designs_begin

pub returns-clause-definitions : goal.returns-clause-definitions
returns-clause-definitions c = one_first_fault BeginsDefs definitions_begin
