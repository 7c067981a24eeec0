use Rattle.lowering_correct.proofs.Fits.{file-fits}
use Rattle.lowering_correct.proofs.Loads.{rows-load}
use Rattle.lowering_correct.proofs.rows.rows_load.Goals as goal

pub returns-clause-loads : goal.returns-clause-loads
returns-clause-loads c = rows-load

pub returns-clause-fits : goal.returns-clause-fits
returns-clause-fits c = file-fits
