use Rattle.std.proofs.Common.{◌∙◌}
use Rattle.p4_ir.specs.Program.{program_of}
use Rattle.p4_kinds.proofs.NumberFacts.{ascending_is}
use Rattle.p4_kinds.proofs.numbers.ascends.Goals as goal

pub returns : goal.returns
returns c = c.are_ascending.ensures ∙ ascending_is (program_of c.args.program.now)
