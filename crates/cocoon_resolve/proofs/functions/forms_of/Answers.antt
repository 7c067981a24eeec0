use Rattle.cocoon_resolve.proofs.FunctionSteps.{known_step}
use Rattle.cocoon_resolve.proofs.functions.forms_of.Goals as goal

pub loop-decl-preserved : goal.loop-decl-preserved
loop-decl-preserved c = known_step c.args.decls.now c.loop-decl.decl-index c.decl-item.result c.loop-decl.known.items c.push_known.new.known.items c.loop-decl-test.true c.decl-item.is c.loop-decl.invariant (c.in_ok-push_known.ensures {u = tt})
