use Rattle.flat_laws.proofs.Fitted.{flat-inputs, results-are-fit}
use Rattle.flat_laws.proofs.laws.flat_inputs_fit.Goals as goal

pub returns : goal.returns
returns c = record { flat = flat-inputs; results = results-are-fit }
