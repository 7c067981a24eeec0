use Rattle.std.proofs.Common.{◌+◌, ◌*◌, ◌-◌, length}
use Rattle.net_run.specs.Following.{IsUnderWay}
use Rattle.net_run.specs.RunCounts.{most_runs}
use Rattle.net_run.proofs.delivering.deliver_in.Given as goal

abbrev pub invariant-loop-copy : goal.invariant-loop-copy
invariant-loop-copy l = IsUnderWay l.net l.host l.bytes l.hops l.walk

abbrev pub decreases-loop-copy : goal.decreases-loop-copy
decreases-loop-copy l = 2 * (most_runs - l.walk.runs) + length l.walk.stack.items
