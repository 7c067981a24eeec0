use Rattle.std.proofs.Common.{◌≡◌, drop, map}
use Rattle.lowering_correct.specs.Counts.{first_over}
use Rattle.lower_rows.specs.AllGroups.{fork_group_of}
use Rattle.lower_net.specs.Limits.{of_groups}
use Rattle.lower_net.proofs.limits.groups_over.Given as goal

abbrev pub invariant-loop-group : goal.invariant-loop-group
invariant-loop-group l = first_over (of_groups (map fork_group_of l.groups)) ≡ first_over (of_groups (map fork_group_of (drop l.group-index l.groups)))
