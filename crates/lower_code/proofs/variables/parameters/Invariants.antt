use Rattle.std.proofs.Common.{◌≡◌, ◌+◌, ◌≤◌, drop, length, map}
use Rattle.cocoon_syntax.specs.TreeOf.{param_of}
use Rattle.lowering.specs.Lower.{variables_from}
use Rattle.lower_code.specs.Variables.{variables_of}
use Rattle.lower_code.proofs.variables.parameters.Given as goal

abbrev pub invariant-loop-at : goal.invariant-loop-at
invariant-loop-at l = record {
  within : l.at ≤ length l.params;
  bound : variables_of l.variables.items ≡ variables_from (l.first + l.at) (map param_of (drop l.at l.params));
}

abbrev pub decreases-loop-at : goal.decreases-loop-at
decreases-loop-at l = l.at
