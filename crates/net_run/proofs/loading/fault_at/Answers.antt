use Rattle.net_run.proofs.LoadingSteps.{fault_is}
use Rattle.net_run.proofs.loading.fault_at.Goals as goal

pub returns-in_default : goal.returns-in_default
returns-in_default c = fault_is c.args.fault c.args.number c.in_default.not-NoMemory
