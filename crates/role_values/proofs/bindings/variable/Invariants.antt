use Rattle.std.proofs.Common.{◌≡◌, ◌≤◌, take, length}
use Rattle.cocoon_types.specs.Val as val
use Rattle.role_values.specs.Bound.{env_of}
use Rattle.role_values.proofs.bindings.variable.Given as goal

abbrev pub invariant-loop-at : goal.invariant-loop-at
invariant-loop-at l = record {
  within : l.at ≤ length l.bindings;
  same : val.variable (env_of l.bindings) l.name ≡ val.variable (env_of (take l.at l.bindings)) l.name;
}

abbrev pub decreases-loop-at : goal.decreases-loop-at
decreases-loop-at l = l.at
