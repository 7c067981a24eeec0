use Rattle.net_wiring.proofs.Differing.{one-difference}
use Rattle.net_wiring.proofs.laws.one_first_difference.Goals as goal

pub returns : goal.returns
returns c = one-difference
