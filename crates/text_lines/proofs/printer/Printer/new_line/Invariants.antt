use Rattle.std.proofs.Common.{◌∷◌, replicate}
use Rattle.text_lines.specs.Printing.{Prints}
use Rattle.text_lines.proofs.printer.Printer.new_line.Given as goal

abbrev pub invariant-loop-i : goal.invariant-loop-i
invariant-loop-i l = Prints l.fn.self (10 ∷ replicate l._i 32) l.self
