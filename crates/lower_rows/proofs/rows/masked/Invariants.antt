use Rattle.std.proofs.Common.{◌≡◌, ◌≤◌, ◌-◌, ◌++◌, drop, length}
use Rattle.lowering_correct.specs.SwitchRows.{masked}
use Rattle.lower_rows.proofs.rows.masked.Given as goal

abbrev pub invariant-loop-at : goal.invariant-loop-at
invariant-loop-at l = record {
  within : l.at ≤ length l.values;
  rest : l.bits.items ++ masked (drop l.at l.values) (drop l.at l.masks) ≡ masked l.values l.masks;
}

abbrev pub decreases-loop-at : goal.decreases-loop-at
decreases-loop-at l = length l.values - l.at
