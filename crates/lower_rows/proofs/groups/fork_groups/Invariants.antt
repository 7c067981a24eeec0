use Rattle.std.proofs.Common.{◌≡◌, ◌++◌, drop, map}
use Rattle.cocoon_syntax.specs.TreeOf.{design_of}
use Rattle.cocoon_types.specs.DefsRules.{fork_calls}
use Rattle.cocoon_types.specs.Design.{functions}
use Rattle.lowering_correct.specs.Groups.{fork_groups, groups_of}
use Rattle.lower_rows.specs.AllGroups.{fork_group_of}
use Rattle.lower_rows.proofs.groups.fork_groups.Given as goal

abbrev pub invariant-loop-place : goal.invariant-loop-place
invariant-loop-place l = record {
  number : l.number ≡ l.place-index;
  rest : map fork_group_of l.groups.items
      ++ groups_of (fork_calls (design_of l.checked)) (drop l.place-index (functions (design_of l.checked))) (drop l.place-index l.defs)
      ≡ fork_groups (design_of l.checked) l.defs;
}
