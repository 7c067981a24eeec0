use Rattle.p4_emit.specs.Printed.{extract_text}
use Rattle.p4_emit.proofs.Printing.{followed}
use Rattle.p4_emit.proofs.print.push_extract.Goals as goal

pub returns : goal.returns
unfolding extract_text
returns c = followed c.push.ensures (followed c.push_name.ensures c.push-2.ensures)
