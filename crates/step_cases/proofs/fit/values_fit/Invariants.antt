use Rattle.std.proofs.Common.{◌≡◌, drop, map}
use Rattle.cocoon_syntax.specs.TreeOf.{param_of}
use Rattle.cocoon_types.specs.Design.{widths_of}
use Rattle.step_cases.specs.Cases.{all_fit_widths}
use Rattle.step_cases.proofs.fit.values_fit.Given as goal

abbrev pub invariant-loop-at : goal.invariant-loop-at
invariant-loop-at l = all_fit_widths (widths_of (map param_of l.params)) l.values ≡ all_fit_widths (widths_of (map param_of (drop l.at l.params))) (drop l.at l.values)
