use Rattle.std.proofs.Common.{◌≡◌, ◌≤◌, ◌++◌, [], map, drop, length}
use Rattle.cocoon_syntax.specs.TreeOf.{param_of}
use Rattle.name_rules.proofs.decls.scope_with.Given as goal

abbrev pub invariant-loop-left : goal.invariant-loop-left
invariant-loop-left l = record {
  within : l.left ≤ length l.params;
  bound : l.vars ≡ map param_of (drop l.left l.params) ++ [];
}

abbrev pub decreases-loop-left : goal.decreases-loop-left
decreases-loop-left l = l.left
