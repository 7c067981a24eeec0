use Rattle.p4_emit.specs.Printed.{header_field_text}
use Rattle.p4_emit.proofs.Printing.{followed}
use Rattle.p4_emit.proofs.print.push_header_field.Goals as goal

pub returns : goal.returns
unfolding header_field_text
returns c = followed c.push.ensures (followed c.push_width.ensures (followed c.push-2.ensures (followed c.push_name.ensures c.push-3.ensures)))
