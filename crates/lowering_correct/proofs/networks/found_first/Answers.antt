use Rattle.lowering_correct.proofs.Functions.{found_first}
use Rattle.lowering_correct.proofs.networks.found_first.Goals as goal

pub returns : goal.returns
returns c = found_first
