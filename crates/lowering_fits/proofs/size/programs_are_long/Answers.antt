use Rattle.lowering_fits.proofs.SizeCounted.{program_long}
use Rattle.lowering_fits.proofs.size.programs_are_long.Goals as goal

pub returns : goal.returns
returns c = program_long
