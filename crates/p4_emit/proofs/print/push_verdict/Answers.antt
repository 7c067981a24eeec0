use Rattle.p4_emit.specs.Printed.{verdict_text}
use Rattle.p4_emit.proofs.Printing.{followed}
use Rattle.p4_emit.proofs.print.push_verdict.Goals as goal

pub returns : goal.returns
unfolding verdict_text
returns c = followed c.push.ensures (followed (rw c.from.ensures at c.push_literal.ensures) c.push-2.ensures)
