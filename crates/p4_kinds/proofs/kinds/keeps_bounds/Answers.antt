use Rattle.std.proofs.Common.{sym, ◌∙◌}
use Rattle.p4_ir.specs.Program.{program_of}
use Rattle.p4_kinds.proofs.Deep.{program_shallow}
use Rattle.p4_kinds.proofs.kinds.keeps_bounds.Goals as goal

pub returns : goal.returns
returns c = c.are_shallow.ensures ∙ sym (program_shallow (program_of c.args.program.now))
