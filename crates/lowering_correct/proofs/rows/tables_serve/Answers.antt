use Rattle.lowering_correct.proofs.Serves.{tables-serve}
use Rattle.lowering_correct.proofs.rows.tables_serve.Goals as goal

pub returns : goal.returns
returns c = tables-serve
