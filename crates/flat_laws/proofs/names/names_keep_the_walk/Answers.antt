use Rattle.flat_laws.proofs.RenamedTerms.{walk-kept}
use Rattle.flat_laws.proofs.names.names_keep_the_walk.Goals as goal

pub returns : goal.returns
returns c = walk-kept
