use Rattle.bv_terms.specs.TermValues.{number_in}
use Rattle.bv_terms.specs.Evaluated.{value_in}
use Rattle.bv_terms.proofs.Members.{map-more}
use Rattle.bv_terms.proofs.eval.arguments.Goals as goal

pub loop-arg-preserved : goal.loop-arg-preserved
loop-arg-preserved c =
    map-more (λ a. number_in (value_in c.args.values.now a)) c.args.args.now c.loop-arg.arg-index c.loop-arg.numbers.items c.push.new.self.items c.argument.result
    c.loop-arg-test.true c.loop-arg.invariant c.in_ok-push.ensures.items c.argument.ensures
