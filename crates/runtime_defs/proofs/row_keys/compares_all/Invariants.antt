use Rattle.std.proofs.Common.{length, drop, ◌-◌, ◌≡◌, ◌≤◌}
use Rattle.runtime_defs.specs.Places.{AllDeclared}
use Rattle.runtime_defs.specs.RowKeys as spec
use Rattle.runtime_defs.proofs.row_keys.compares_all.Given as goal

abbrev pub invariant-loop-at : goal.invariant-loop-at
invariant-loop-at l = record {
  within : l.at ≤ length l.widths;
  declared : AllDeclared (drop l.at l.widths);
  rest : spec.compares_all l.widths l.values l.masks ≡ spec.compares_all (drop l.at l.widths) (drop l.at l.values) (drop l.at l.masks);
}

abbrev pub decreases-loop-at : goal.decreases-loop-at
decreases-loop-at l = length l.widths - l.at
