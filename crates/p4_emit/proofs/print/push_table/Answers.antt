use Rattle.p4_emit.proofs.Printing.{followed}
use Rattle.p4_emit.proofs.print.push_table.Goals as goal

pub returns : goal.returns
returns c = followed c.push_action.ensures (followed c.push_table_keys.ensures c.push_default.ensures)
