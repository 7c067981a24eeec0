use Rattle.std.proofs.Common.{◌≡◌, drop}
use Rattle.step_cases.specs.Cases.{all_fit_widths}
use Rattle.step_cases.proofs.fit.fields_fit.Given as goal

abbrev pub invariant-loop-at : goal.invariant-loop-at
invariant-loop-at l = all_fit_widths l.widths l.fields ≡ all_fit_widths (drop l.at l.widths) (drop l.at l.fields)
