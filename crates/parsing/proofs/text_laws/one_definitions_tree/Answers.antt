use Rattle.parsing.proofs.ReadsParts.{one_defs}
use Rattle.parsing.proofs.text_laws.one_definitions_tree.Goals as goal

pub returns : goal.returns
returns c = one_defs
