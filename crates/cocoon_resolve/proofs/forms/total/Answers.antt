use Rattle.cocoon_resolve.proofs.Steps.{total_step}
use Rattle.cocoon_resolve.proofs.forms.total.Goals as goal

pub loop-number-preserved : goal.loop-number-preserved
loop-number-preserved c = total_step c.args.numbers.now c.loop-number.number-index _ _ c.loop-number-test.true c.loop-number.invariant c.saturating_add-sum.ensures
