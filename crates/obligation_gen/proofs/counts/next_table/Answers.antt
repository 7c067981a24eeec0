use Rattle.cocoon_syntax.specs.TreeOf.{design_of}
use Rattle.obligation_gen.proofs.Tables.{table_step}
use Rattle.obligation_gen.proofs.counts.next_table.Goals as goal

pub loop-decl-preserved : goal.loop-decl-preserved
loop-decl-preserved c =
    table_step (design_of c.args.checked.now) c.args.above c.args.table.now c.args.decls.now c.loop-decl.decl-index c.decl-item.result _ _ c.loop-decl-test.true c.decl-item.is c.loop-decl.invariant c.in_ok-note_decl.ensures
