use Rattle.p4_emit.specs.Printed.{header_text}
use Rattle.p4_emit.proofs.Printing.{followed}
use Rattle.p4_emit.proofs.print.push_header.Goals as goal

pub returns : goal.returns
unfolding header_text
returns c = followed c.push.ensures (followed c.push_name.ensures (followed c.push-2.ensures (followed (rw c.items.ensures at c.push_header_fields.ensures) c.push-3.ensures)))
