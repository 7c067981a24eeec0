use Rattle.std.proofs.Common.{◌≡◌, drop}
use Rattle.runtime_defs.specs.Places.{all_fit_widths}
use Rattle.obligation_tests.proofs.fitting.all_fit.Given as goal

abbrev pub invariant-loop-at : goal.invariant-loop-at
invariant-loop-at l = all_fit_widths l.widths l.numbers ≡ all_fit_widths (drop l.at l.widths) (drop l.at l.numbers)
