use Rattle.cocoon_cli.proofs.Refined.{refined_of}
use Rattle.cocoon_cli.proofs.laws.checked_designs_are_refined.Goals as goal

pub returns : goal.returns
returns c = refined_of c.one_tree.ensures
