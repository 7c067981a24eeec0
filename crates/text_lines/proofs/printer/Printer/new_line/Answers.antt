use Rattle.text_lines.proofs.Printing.{one_blank}
use Rattle.text_lines.proofs.printer.Printer.new_line.Goals as goal

pub loop-i-preserved : goal.loop-i-preserved
loop-i-preserved c = one_blank c.loop-i._i c.loop-i.invariant c.push-in-loop-i.ensures
