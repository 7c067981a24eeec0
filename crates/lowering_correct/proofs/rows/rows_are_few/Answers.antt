use Rattle.lowering_correct.proofs.Few.{rows-few}
use Rattle.lowering_correct.proofs.rows.rows_are_few.Goals as goal

pub returns : goal.returns
returns c = rows-few
