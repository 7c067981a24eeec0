use Rattle.std.proofs.Common.{◌≡◌, map, take}
use Rattle.cocoon_syntax.specs.TreeOf.{header_of as design_header}
use Rattle.lowering.specs.SwitchProgram.{p4_header}
use Rattle.p4_ir.specs.Program.{header_of}
use Rattle.lower_net.proofs.headers.headers.Given as goal

abbrev pub invariant-loop-each : goal.invariant-loop-each
invariant-loop-each l = map header_of l.lowered.items ≡ map p4_header (map design_header (take l.each-index l.headers))
