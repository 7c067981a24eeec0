use Rattle.std.proofs.Common.{drop, map}
use Rattle.p4_ir.specs.Program.{block_of, program_of, stmt_of}
use Rattle.shared_net.specs.Merging.{block_merged}
use Rattle.p4_emit.specs.Printed.{block_text}
use Rattle.p4_emit.proofs.Printing.{Leads}
use Rattle.p4_emit.proofs.print.+block.Given as goal

abbrev pub invariant-emit_block-loop-stmt : goal.invariant-emit_block-loop-stmt
invariant-emit_block-loop-stmt l =
    let p = program_of l.switch.program.now in
    Leads l.fn.out l.out (block_text p l.indent (block_merged l.switch.number (block_of (map stmt_of (drop l.stmt-index l.stmts))) (block_of (map stmt_of l.left))))
    (block_text p l.indent (block_merged l.switch.number (block_of (map stmt_of l.stmts)) (block_of (map stmt_of l.others))))
