use Rattle.std.proofs.Common.{◌≡◌, ◌≤◌, take, length}
use Rattle.lowering.specs.Lower.{variable_expr}
use Rattle.lower_code.specs.Variables.{variables_of}
use Rattle.lower_code.proofs.variables.read_variable.Given as goal

abbrev pub invariant-loop-at : goal.invariant-loop-at
invariant-loop-at l = record {
  within : l.at ≤ length l.variables;
  same : variable_expr (variables_of l.variables) l.name ≡ variable_expr (variables_of (take l.at l.variables)) l.name;
}

abbrev pub decreases-loop-at : goal.decreases-loop-at
decreases-loop-at l = l.at
