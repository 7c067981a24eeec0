use Rattle.runtime_defs.proofs.Shapes.{table-taking}
use Rattle.runtime_defs.proofs.laws.functions_have_tables.Goals as goal

pub returns : goal.returns
returns c = table-taking
