use Rattle.command_laws.proofs.Ending.{by_assumption}
use Rattle.command_laws.proofs.completeness.updates_decide_assumptions_alone.Goals as goal

pub returns : goal.returns
returns c = by_assumption c.calls_keep_more.ensures
