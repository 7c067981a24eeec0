use Rattle.obligation_laws.proofs.TreesTogether.{body_counted, inlined_counted}
use Rattle.obligation_laws.proofs.tree_laws.leaves_are_counted.Goals as goal

pub returns : goal.returns
returns c = record { inlined = inlined_counted; one_body = body_counted }
