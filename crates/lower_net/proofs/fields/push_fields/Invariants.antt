use Rattle.std.proofs.Common.{◌≡◌, ◌++◌, drop, map}
use Rattle.cocoon_num.specs.Tree.{Design}
use Rattle.lower_code.specs.Growth.{made_in}
use Rattle.lowering.specs.SwitchProgram.{fields_in}
use Rattle.p4_ir.specs.Program.{field_of}
use Rattle.lower_net.proofs.fields.push_fields.Given as goal

abbrev pub invariant-loop-part : goal.invariant-loop-part
invariant-loop-part l = (d : Design) → map field_of l.fields.items ++ fields_in (made_in d (drop l.part-index l.made)) ≡ map field_of l.fn.fields.items ++ fields_in (made_in d l.made)
