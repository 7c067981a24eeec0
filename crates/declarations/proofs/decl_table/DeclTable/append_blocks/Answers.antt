use Rattle.std.proofs.Common.{◌++◌, map, take, subst, arith}
use Rattle.cocoon_syntax.specs.TreeOf.{refine_of}
use Rattle.declarations.specs.Places.{placed_blocks}
use Rattle.declarations.specs.Declares.{Holds}
use Rattle.declarations.proofs.TableFacts.{blocks-step}
use Rattle.declarations.proofs.decl_table.DeclTable.append_blocks.Goals as goal

pub loop-block-preserved : goal.loop-block-preserved
loop-block-preserved c = record {
  level = omega (arith, c.in_ok-level.ensures, c.loop-block.invariant.level);
  held = λ placed h. subst (Holds c.append_level.new.self) (blocks-step placed c.in_ok-level.level c.loop-block.block-index c.args.blocks.now c.block-item.result c.deref.result.now c.loop-block-test.true c.block-item.is (omega (arith, c.in_ok-level.ensures, c.loop-block.invariant.level)) c.deref.ensures.value)
      (c.in_ok-append_level.ensures (placed ++ placed_blocks 1 (map refine_of (take c.loop-block.block-index c.args.blocks.now))) (c.loop-block.invariant.held placed h));
}
