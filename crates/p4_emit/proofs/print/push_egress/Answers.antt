use Rattle.std.proofs.Common.{subst, sym}
use Rattle.p4_ir.specs.Program.{program_of}
use Rattle.text_lines.specs.Printing.{Prints}
use Rattle.p4_emit.proofs.Printing.{followed}
use Rattle.p4_emit.proofs.Switches.{egress_named}
use Rattle.p4_emit.proofs.print.push_egress.Goals as goal

pub returns : goal.returns
returns c =
    let s = c.args.switch.now in
    subst (λ t. Prints c.args.out.now t c.push_fixed-4.new.out) (sym (egress_named s.number (program_of s.program.now) (program_of s.other.now)))
    (followed c.push_fixed.ensures (followed (rw c.items.ensures at c.push_tables.ensures) (followed c.push_fixed-2.ensures (followed (rw c.items-2.ensures at (rw c.items-3.ensures at c.emit_block.ensures))
    (followed c.push_fixed-3.ensures (followed (rw c.items-4.ensures at c.push_deparses.ensures) c.push_fixed-4.ensures))))))
