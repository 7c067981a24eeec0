use Rattle.std.proofs.Common.{length, drop, ◌-◌, ◌≡◌, ◌≤◌}
use Rattle.runtime_defs.specs.Places.{AllDeclared, all_fit_widths}
use Rattle.runtime_defs.proofs.row_keys.all_within.Given as goal

abbrev pub invariant-loop-at : goal.invariant-loop-at
invariant-loop-at l = record {
  within : l.at ≤ length l.widths;
  declared : AllDeclared (drop l.at l.widths);
  rest : all_fit_widths l.widths l.numbers ≡ all_fit_widths (drop l.at l.widths) (drop l.at l.numbers);
}

abbrev pub decreases-loop-at : goal.decreases-loop-at
decreases-loop-at l = length l.widths - l.at
