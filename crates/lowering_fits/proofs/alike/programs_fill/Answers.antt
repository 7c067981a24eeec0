use Rattle.lowering_fits.proofs.Filled.{ingress_alike, made_alike, program_filled}
use Rattle.lowering_fits.proofs.alike.programs_fill.Goals as goal

pub returns-clause-filled : goal.returns-clause-filled
returns-clause-filled c = program_filled

pub returns-clause-made : goal.returns-clause-made
returns-clause-made c = made_alike

pub returns-clause-ingress : goal.returns-clause-ingress
returns-clause-ingress c = ingress_alike
