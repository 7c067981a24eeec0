use Rattle.std.proofs.Common.{suc}
use Rattle.cocoon_syntax.specs.TreeOf.{design_of}
use Rattle.cocoon_types.specs.Design.{role_at}
use Rattle.refinement.specs.Segments.{is_new}
use Rattle.obligation_gen.specs.Tabled.{Tells}
use Rattle.obligation_gen.proofs.counts.leaf_count.Given as goal

abbrev pub invariant-loop-bodies : goal.invariant-loop-bodies
invariant-loop-bodies l = Tells (role_at (suc l.above) (design_of l.checked)) (is_new l.above (design_of l.checked)) l.bodies l.table.items
