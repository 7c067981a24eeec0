use Rattle.cocoon_num.specs.FirstFaults.{BeginsDefs, BeginsDesign}
use Rattle.cocoon_text.proofs.OneFault.{definitions_all_begin, design_begins, no_fault}
use Rattle.cocoon_text.proofs.laws.trees_have_no_fault.Goals as goal

pub returns-clause-designs : goal.returns-clause-designs
returns-clause-designs c text d f r = no_fault BeginsDesign text (design_begins text d r) f

pub returns-clause-definitions : goal.returns-clause-definitions
returns-clause-definitions c text d f r = no_fault BeginsDefs text (definitions_all_begin text d r) f
