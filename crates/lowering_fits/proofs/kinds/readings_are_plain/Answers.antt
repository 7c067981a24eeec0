use Rattle.lowering_fits.proofs.KindReadings as laws
use Rattle.lowering_fits.proofs.kinds.readings_are_plain.Goals as goal

pub returns-clause-literals : goal.returns-clause-literals
returns-clause-literals c text d r = laws.readings_are_wide text d r

pub returns-clause-params : goal.returns-clause-params
returns-clause-params c text d r = laws.readings_have_params text d r
