use Rattle.flat_laws.proofs.FittingValues.{values-fit}
use Rattle.flat_laws.proofs.fitting.values_fit.Goals as goal

pub returns : goal.returns
returns c = values-fit
