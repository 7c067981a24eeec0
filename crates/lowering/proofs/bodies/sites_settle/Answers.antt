use Rattle.lowering.proofs.Settled as settled
use Rattle.lowering.proofs.bodies.sites_settle.Goals as goal

pub returns : goal.returns
returns k c b vars n h = settled.block_settled c b vars n h
