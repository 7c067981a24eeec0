use Rattle.std.proofs.Common.{subst, sym}
use Rattle.p4_ir.specs.Program.{program_of}
use Rattle.text_lines.specs.Printing.{Prints}
use Rattle.p4_emit.proofs.Printing.{followed}
use Rattle.p4_emit.proofs.Switches.{ingress_named}
use Rattle.p4_emit.proofs.print.push_ingress.Goals as goal

pub returns : goal.returns
returns c =
    let s = c.args.switch.now in
    subst (λ t. Prints c.args.out.now t c.emit_block.new.out) (sym (ingress_named s.number (program_of s.program.now) (program_of s.other.now)))
    (followed c.push_fixed.ensures (followed (rw c.items.ensures at c.push_tables.ensures) (followed c.push_fixed-2.ensures (rw c.items-2.ensures at (rw c.items-3.ensures at c.emit_block.ensures)))))
