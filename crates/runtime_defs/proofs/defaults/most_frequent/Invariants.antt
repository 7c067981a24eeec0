use Rattle.std.proofs.Common.{◌≡◌}
use Rattle.runtime_defs.proofs.defaults.most_frequent.Given as goal

abbrev pub invariant-loop-row : goal.invariant-loop-row
invariant-loop-row l = l.best.width ≡ l.width
