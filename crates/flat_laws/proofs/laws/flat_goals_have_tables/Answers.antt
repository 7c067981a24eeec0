use Rattle.flat_laws.proofs.Tabled.{has-tables}
use Rattle.flat_laws.proofs.laws.flat_goals_have_tables.Goals as goal

pub returns : goal.returns
returns c = has-tables
