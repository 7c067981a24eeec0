use Rattle.p4_read.proofs.WholeTexts.{one_tree}
use Rattle.p4_read.proofs.laws.one_text.Goals as goal

pub returns : goal.returns
returns c = one_tree
