use Rattle.std.proofs.Common.{◌-◌, map}
use Rattle.cocoon_num.specs.Tree.{Name}
use Rattle.cocoon_syntax.specs.TreeOf.{design_of, name_of, refine_of}
use Rattle.obligation_gen.specs.Counted.{tree_counts}
use Rattle.obligation_gen.proofs.LargeCounts.{Left}
use Rattle.obligation_gen.proofs.counting.count_leaves.Given as goal

abbrev pub invariant-loop-role : goal.invariant-loop-role
invariant-loop-role l = Left (λ r. tree_counts (l.level - 1) (design_of l.checked) (refine_of l.block) (name_of r).text) l.role-items l.role-index
