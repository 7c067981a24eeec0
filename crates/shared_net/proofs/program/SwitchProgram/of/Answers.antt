use Rattle.p4_ir.specs.Program.{program_of}
use Rattle.shared_net.proofs.Same.{same_program}
use Rattle.shared_net.proofs.program.SwitchProgram.of.Goals as goal

pub returns : goal.returns
returns c = same_program 0 (program_of c.args.program.now)
