use Rattle.p4_emit.specs.Printed.{if_text}
use Rattle.p4_emit.proofs.Printing.{followed}
use Rattle.p4_emit.proofs.print.push_if.Goals as goal

pub returns : goal.returns
unfolding if_text
returns c = followed c.push.ensures (followed c.emit_expr.ensures c.push-2.ensures)
