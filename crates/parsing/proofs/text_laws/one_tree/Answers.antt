use Rattle.parsing.proofs.ReadsParts.{one_design}
use Rattle.parsing.proofs.text_laws.one_tree.Goals as goal

pub returns : goal.returns
returns c = one_design
