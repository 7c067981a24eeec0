use Rattle.cdcl.proofs.Totals.{total-satisfies}
use Rattle.cdcl.proofs.laws.closed_trails_satisfy.Goals as goal

pub returns : goal.returns
returns c = total-satisfies
