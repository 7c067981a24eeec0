use Rattle.std.proofs.Common.{length, drop, map, ◌-◌, ◌≡◌, ◌≤◌}
use Rattle.cocoon_syntax.specs.TreeOf.{param_of, pattern_of}
use Rattle.cocoon_types.specs.DefsRules.{patterns_fit}
use Rattle.cocoon_types.specs.Design.{widths_of}
use Rattle.runtime_defs.proofs.entries.patterns_fit.Given as goal

abbrev pub invariant-loop-at : goal.invariant-loop-at
invariant-loop-at l = record {
  within : l.at ≤ length l.params;
  rest : patterns_fit (map pattern_of l.patterns) (widths_of (map param_of l.params)) ≡ patterns_fit (map pattern_of (drop l.at l.patterns)) (widths_of (map param_of (drop l.at l.params)));
}

abbrev pub decreases-loop-at : goal.decreases-loop-at
decreases-loop-at l = length l.params - l.at
