use Rattle.lowering_correct.proofs.Delivered.{wired}
use Rattle.lowering_correct.proofs.networks.networks_are_wired.Goals as goal

pub returns : goal.returns
returns c = wired
