use Rattle.cdcl.proofs.LearnedClauses.{learned-follows}
use Rattle.cdcl.proofs.laws.learned_clauses_follow.Goals as goal

pub returns : goal.returns
returns c = learned-follows
