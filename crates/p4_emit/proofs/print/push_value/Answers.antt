use Rattle.p4_emit.proofs.Printing.{followed}
use Rattle.p4_emit.proofs.print.push_value.Goals as goal

pub returns : goal.returns
returns c = followed c.push.ensures (followed c.emit_expr.ensures c.push-2.ensures)
