use Rattle.std.proofs.Common.{◌≡◌, take}
use Rattle.lowering.specs.LowerBlock.{ports_kept}
use Rattle.lower_code.specs.Variables.{variables_of}
use Rattle.lower_code.proofs.variables.keep_port.Given as goal

abbrev pub invariant-loop-variable : goal.invariant-loop-variable
invariant-loop-variable l = variables_of l.kept.items ≡ ports_kept l.field (variables_of (take l.variable-index l.variables))
