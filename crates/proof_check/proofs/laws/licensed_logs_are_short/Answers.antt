use Rattle.proof_check.proofs.ShortLogs.{short}
use Rattle.proof_check.proofs.laws.licensed_logs_are_short.Goals as goal

pub returns : goal.returns
returns c = short
