use Rattle.cdcl.proofs.Backjumps.{back-new}
use Rattle.cdcl.proofs.laws.learned_clauses_are_new.Goals as goal

pub returns : goal.returns
returns c = back-new
