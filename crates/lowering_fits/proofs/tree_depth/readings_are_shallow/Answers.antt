use Rattle.lowering_fits.proofs.Readings as readings
use Rattle.lowering_fits.proofs.tree_depth.readings_are_shallow.Goals as goal

pub returns : goal.returns
returns c = readings.readings_are_shallow
