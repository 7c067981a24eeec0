use Rattle.cocoon_syntax.specs.TreeOf.{design_of}
use Rattle.cocoon_types.specs.Design.{decls_to}
use Rattle.cocoon_resolve.specs.Kept.{HoldsRow, HoldsRows}
use Rattle.cocoon_resolve.proofs.bodies.Bodies.new.Given as goal

abbrev pub invariant-loop-block : goal.invariant-loop-block
invariant-loop-block l = record {
  row : HoldsRow (design_of l.design) (decls_to l.block-index (design_of l.design)) l.row.items;
  rows : HoldsRows l.block-index (design_of l.design) l.rows.items;
}
