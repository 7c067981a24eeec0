use Rattle.std.proofs.Common.{◌≡◌, map, take}
use Rattle.cocoon_syntax.specs.TreeOf.{param_of}
use Rattle.cocoon_types.specs.Design.{widths_of}
use Rattle.obligation_gen.proofs.inputs.param_widths.Given as goal

abbrev pub invariant-loop-param : goal.invariant-loop-param
invariant-loop-param l = l.widths.items ≡ widths_of (map param_of (take l.param-index l.params))
