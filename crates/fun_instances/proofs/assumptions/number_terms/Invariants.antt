use Rattle.std.proofs.Common.{◌≡◌, ◌-◌, ◌≤◌, ◌++◌, drop, length, map}
use Rattle.cocoon_syntax.specs.TreeOf.{param_of}
use Rattle.cocoon_types.specs.Design.{widths_of}
use Rattle.expr_terms.specs.Variables.{AreThere, Keeps, terms_at}
use Rattle.fun_instances.specs.AssumptionTerms.{number_terms}
use Rattle.fun_instances.proofs.assumptions.number_terms.Given as goal

abbrev pub invariant-loop-at : goal.invariant-loop-at
invariant-loop-at l = record {
  within : l.at ≤ length l.values;
  kept : Keeps l.fn.terms l.terms;
  there : AreThere l.terms l.made.items;
  terms : terms_at l.terms l.made.items ++ number_terms (widths_of (map param_of (drop l.at l.params))) (drop l.at l.values) ≡ number_terms (widths_of (map param_of l.params)) l.values;
}

abbrev pub decreases-loop-at : goal.decreases-loop-at
decreases-loop-at l = length l.values - l.at
