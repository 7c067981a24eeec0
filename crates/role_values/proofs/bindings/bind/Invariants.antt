use Rattle.std.proofs.Common.{◌≡◌, ◌≤◌, drop, map, length, Some}
use Rattle.cocoon_syntax.specs.TreeOf.{param_of}
use Rattle.cocoon_types.specs.Val as val
use Rattle.role_values.specs.Bound.{env_of}
use Rattle.role_values.proofs.bindings.bind.Given as goal

abbrev pub invariant-loop-at : goal.invariant-loop-at
invariant-loop-at l = record {
  within : l.at ≤ length l.params;
  bound : val.bind (map param_of (drop l.at l.params)) (drop l.at l.args) ≡ Some (env_of l.bindings.items);
}

abbrev pub decreases-loop-at : goal.decreases-loop-at
decreases-loop-at l = l.at
