use Rattle.std.proofs.Common.{◌≤◌}
use Rattle.runtime_defs.proofs.defaults.count_of.Given as goal

abbrev pub invariant-loop-row : goal.invariant-loop-row
invariant-loop-row l = l.count ≤ l.row-index
