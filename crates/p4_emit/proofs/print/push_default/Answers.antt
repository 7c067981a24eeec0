use Rattle.p4_emit.specs.Printed.{default_text}
use Rattle.p4_emit.proofs.Printing.{followed}
use Rattle.p4_emit.proofs.print.push_default.Goals as goal

pub returns : goal.returns
unfolding default_text
returns c = followed c.push.ensures (followed c.push_number.ensures (followed c.push-2.ensures (followed c.push_number-2.ensures (followed c.push-3.ensures (followed (rw c.result_width.ensures at c.push_literal.ensures) c.push-4.ensures)))))
