use Rattle.lowering_correct.proofs.Ingress.{ingress_is}
use Rattle.lowering_correct.proofs.networks.ingress_is.Goals as goal

pub returns : goal.returns
returns c = ingress_is
