use Rattle.lowering_correct.proofs.WholeFitting.{network_fits}
use Rattle.lowering_correct.proofs.whole.networks_fit.Goals as goal

pub returns : goal.returns
returns c = network_fits c.networks_are_wired.ensures c.logs_are_made.ensures c.rows_load.ensures.loads c.rows_load.ensures.fits
