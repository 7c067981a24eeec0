use Rattle.std.proofs.Common.{◌≡◌, drop, map}
use Rattle.cocoon_syntax.specs.TreeOf.{param_of}
use Rattle.cocoon_types.specs.Design.{widths_of}
use Rattle.runtime_defs.specs.Printable.{all_fit_widths}
use Rattle.queries.proofs.fitting.numbers_fit.Given as goal

abbrev pub invariant-loop-at : goal.invariant-loop-at
invariant-loop-at l = all_fit_widths (widths_of (map param_of l.params)) l.numbers ≡ all_fit_widths (widths_of (map param_of (drop l.at l.params))) (drop l.at l.numbers)
