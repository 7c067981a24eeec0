use Rattle.lowering.proofs.States as states
use Rattle.lowering.proofs.bodies.lists_run.Goals as goal

pub returns : goal.returns
returns c at xs s = states.block_runs at xs s
