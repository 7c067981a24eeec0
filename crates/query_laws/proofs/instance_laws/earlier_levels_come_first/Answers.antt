use Rattle.query_laws.proofs.Instances.{among-all}
use Rattle.query_laws.proofs.instance_laws.earlier_levels_come_first.Goals as goal

pub returns : goal.returns
returns c = among-all
