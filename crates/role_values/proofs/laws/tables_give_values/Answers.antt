use Rattle.role_values.proofs.TableValues.{values_up}
use Rattle.role_values.proofs.laws.tables_give_values.Goals as goal

pub returns : goal.returns
returns c = values_up
