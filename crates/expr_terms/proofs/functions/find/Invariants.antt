use Rattle.std.proofs.Common.{◌≡◌, ◌≤◌}
use Rattle.cocoon_syntax.specs.TreeOf.{design_of}
use Rattle.expr_terms.specs.Finds.{number_in}
use Rattle.expr_terms.specs.Sizes.{functions_before}
use Rattle.expr_terms.proofs.functions.find.Given as goal

abbrev pub invariant-loop-at : goal.invariant-loop-at
invariant-loop-at l = record {
  within : l.at ≤ l.before;
  same : number_in (functions_before (design_of l.checked) l.before) l.name ≡ number_in (functions_before (design_of l.checked) l.at) l.name;
}

abbrev pub decreases-loop-at : goal.decreases-loop-at
decreases-loop-at l = l.at
