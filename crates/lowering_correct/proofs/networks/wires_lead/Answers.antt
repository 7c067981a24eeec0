use Rattle.lowering_correct.proofs.WireGoes.{wires}
use Rattle.lowering_correct.proofs.networks.wires_lead.Goals as goal

pub returns : goal.returns
returns c = wires
