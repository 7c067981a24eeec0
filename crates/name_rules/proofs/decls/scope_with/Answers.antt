use Rattle.std.proofs.Common.{arith}
use Rattle.name_rules.proofs.DeclSteps.{params_step}
use Rattle.name_rules.proofs.decls.scope_with.Goals as goal

pub loop-left-preserved : goal.loop-left-preserved
loop-left-preserved c = record {
  within = omega (arith, c.loop-left.invariant.within);
  bound = params_step c.args.params.now c.loop-left.left c.index-params-left.result c.loop-left.vars c.bind.new.self c.loop-left-test.true c.loop-left.invariant.within
      c.index-params-left.is c.loop-left.invariant.bound c.in_ok-bind.ensures;
}
