use Rattle.net_wiring.proofs.Differing.{no-difference}
use Rattle.net_wiring.proofs.laws.same_have_no_difference.Goals as goal

pub returns : goal.returns
returns c = no-difference
