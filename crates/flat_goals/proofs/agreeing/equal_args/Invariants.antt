use Rattle.std.proofs.Common.{length, ◌-◌}
use Rattle.flat_goals.proofs.Equals.{Comparing}
use Rattle.flat_goals.proofs.agreeing.equal_args.Given as goal

abbrev pub invariant-loop-at : goal.invariant-loop-at
invariant-loop-at l = Comparing l.fn.terms l.terms l.args l.others l.all l.at

abbrev pub decreases-loop-at : goal.decreases-loop-at
decreases-loop-at l = length l.args - l.at
