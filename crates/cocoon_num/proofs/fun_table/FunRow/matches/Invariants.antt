use Rattle.std.proofs.Common.{length, drop, ◌-◌, ◌≡◌, ◌≤◌}
use Rattle.cocoon_num.specs.Rows.{values_match}
use Rattle.cocoon_num.proofs.fun_table.FunRow.matches.Given as goal

abbrev pub invariant-loop-at : goal.invariant-loop-at
invariant-loop-at l = record {
  within : l.at ≤ length l.args;
  rest : values_match l.values l.masks l.args ≡ values_match (drop l.at l.values) (drop l.at l.masks) (drop l.at l.args);
}

abbrev pub decreases-loop-at : goal.decreases-loop-at
decreases-loop-at l = length l.args - l.at
