use Rattle.std.proofs.Common.{◌≡◌, map, take}
use Rattle.cocoon_syntax.specs.TreeOf.{param_of}
use Rattle.lowering.specs.SwitchProgram.{p4_field}
use Rattle.p4_ir.specs.Program.{field_of}
use Rattle.lower_net.proofs.headers.fields.Given as goal

abbrev pub invariant-loop-param : goal.invariant-loop-param
invariant-loop-param l = map field_of l.lowered.items ≡ map p4_field (map param_of (take l.param-index l.params))
