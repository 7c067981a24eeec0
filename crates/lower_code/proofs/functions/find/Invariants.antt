use Rattle.std.proofs.Common.{◌≡◌, ◌≤◌}
use Rattle.lower_code.specs.Scopes.{design_in, functions_before, number_in}
use Rattle.lower_code.proofs.functions.find.Given as goal

abbrev pub invariant-loop-at : goal.invariant-loop-at
invariant-loop-at l = record {
  within : l.at ≤ l.scope.before;
  same : number_in (functions_before (design_in l.scope) l.scope.before) l.name ≡ number_in (functions_before (design_in l.scope) l.at) l.name;
}

abbrev pub decreases-loop-at : goal.decreases-loop-at
decreases-loop-at l = l.at
