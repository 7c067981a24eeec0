use Rattle.std.proofs.Common.{arith}
use Rattle.lowering_fits.proofs.Trees as trees
use Rattle.lowering.specs.SwitchProgram.{switch_program}
use Rattle.lowering_fits.proofs.depth.programs_are_shallow.Goals as goal

pub returns : goal.returns
returns c d h parts e s =
    let f = trees.program_flat d h parts e s in
    c.flat_programs_are_shallow.ensures (switch_program parts.role s) 66 (omega arith) f.0 f.1
