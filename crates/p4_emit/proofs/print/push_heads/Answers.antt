use Rattle.p4_emit.specs.Printed.{heads_text}
use Rattle.p4_emit.proofs.Printing.{followed}
use Rattle.p4_emit.proofs.print.push_heads.Goals as goal

pub returns : goal.returns
unfolding heads_text
returns c = followed c.push_fixed.ensures (followed (rw c.items.ensures at c.push_headers.ensures) (followed c.push_fixed-2.ensures (followed (rw c.items-2.ensures at c.push_members.ensures) (followed c.push_fixed-3.ensures (followed (rw c.items-3.ensures at c.push_meta_members.ensures) (followed c.push_fixed-4.ensures (rw c.items-4.ensures at c.push_extracts.ensures)))))))
