use Rattle.cocoon_cli.proofs.Running.{keeps_more}
use Rattle.cocoon_cli.proofs.laws.calls_keep_more.Goals as goal

pub returns : goal.returns
returns c = keeps_more
