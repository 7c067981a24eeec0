use Rattle.std.proofs.Common.{◌-◌}
use Rattle.cocoon_syntax.specs.TreeOf.{design_of}
use Rattle.obligation_gen.proofs.LargeCounts.{LeftBehind}
use Rattle.obligation_gen.proofs.making.count_all.Given as goal

abbrev pub invariant-loop-level : goal.invariant-loop-level
invariant-loop-level l = LeftBehind (design_of l.checked) (l.level - 1)
