use Rattle.std.proofs.Common.{◌++◌, map, take, subst, arith}
use Rattle.cocoon_syntax.specs.TreeOf.{decl_of}
use Rattle.declarations.specs.Places.{placed_from}
use Rattle.declarations.specs.Declares.{Holds}
use Rattle.declarations.proofs.TableFacts.{level-step}
use Rattle.declarations.proofs.decl_table.DeclTable.append_level.Goals as goal

pub loop-decl-preserved : goal.loop-decl-preserved
loop-decl-preserved c = record {
  index = omega (arith, c.in_ok-index.ensures, c.loop-decl.invariant.index);
  held = λ placed h. subst (Holds c.append.new.self) (level-step placed c.args.level c.loop-decl.index c.loop-decl.decl-index c.args.decls.now c.decl-item.result c.loop-decl-test.true c.decl-item.is c.loop-decl.invariant.index)
      (c.in_ok-append.ensures (placed ++ placed_from c.args.level 0 (map decl_of (take c.loop-decl.decl-index c.args.decls.now))) (c.loop-decl.invariant.held placed h));
}
