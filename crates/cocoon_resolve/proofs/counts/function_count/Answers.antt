use Rattle.cocoon_syntax.specs.TreeOf.{decl_of}
use Rattle.cocoon_types.specs.Design.{as_function}
use Rattle.cocoon_resolve.proofs.Steps.{count_step}
use Rattle.cocoon_resolve.proofs.counts.function_count.Goals as goal

pub loop-decl-preserved : goal.loop-decl-preserved
loop-decl-preserved c = count_step as_function (λ d. decl_of d.now) c.args.decls.now c.loop-decl.decl-index c.decl-item.result _ _ _ c.loop-decl-test.true c.decl-item.is c.loop-decl.invariant c.is_function.ensures c.saturating_add-count.ensures
