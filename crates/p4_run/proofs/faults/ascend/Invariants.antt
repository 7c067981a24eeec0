use Rattle.std.proofs.Common.{◌≡◌, ◌-◌, ◌≤◌, drop, length}
use Rattle.cocoon_num.specs.Lists.{ascend}
use Rattle.p4_run.proofs.faults.ascend.Given as goal

abbrev pub invariant-loop-at : goal.invariant-loop-at
invariant-loop-at l = record {
  positive : 1 ≤ l.at;
  rest : ascend (drop (l.at - 1) l.members) ≡ ascend l.members;
}

abbrev pub decreases-loop-at : goal.decreases-loop-at
decreases-loop-at l = length l.members - l.at
