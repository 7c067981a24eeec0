use Rattle.std.proofs.Common.{ap, ◌++◌, ◌∷◌, [], ◌∙◌}
use Rattle.lower_net.proofs.Still.{zeros_more}
use Rattle.lower_net.proofs.idle.zeros.Goals as goal

pub loop-preserved : goal.loop-preserved
loop-preserved c = c.in_ok-push.ensures.items ∙ ap (λ ns. ns ++ 0 ∷ []) c.loop.invariant ∙ zeros_more c.args.widths.now c.loop.index c.loop-test.true
