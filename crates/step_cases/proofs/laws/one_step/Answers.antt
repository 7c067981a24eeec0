use Rattle.step_cases.proofs.OneRun.{one_step}
use Rattle.step_cases.proofs.laws.one_step.Goals as goal

pub returns : goal.returns
returns c = one_step c.one_end.ensures
