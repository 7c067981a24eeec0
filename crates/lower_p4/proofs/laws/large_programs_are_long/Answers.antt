use Rattle.lower_p4.proofs.LongFiles.{long_programs}
use Rattle.lower_p4.proofs.laws.large_programs_are_long.Goals as goal

pub returns : goal.returns
returns c = long_programs c.programs_are_long.ensures
