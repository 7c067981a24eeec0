use Rattle.lowering_correct.proofs.Few.{groups-few}
use Rattle.lowering_correct.proofs.rows.groups_are_few.Goals as goal

pub returns : goal.returns
returns c = groups-few
