use Rattle.p4_kinds.proofs.FlatPrograms as flat
use Rattle.p4_kinds.proofs.laws.flat_programs_are_shallow.Goals as goal

pub returns : goal.returns
returns c = flat.flat_programs_are_shallow
