use Rattle.std.proofs.Common.{map, rules}
use Rattle.p4_ir.specs.Program.{block_of, program_of, stmt_of}
use Rattle.p4_emit.proofs.Printing.{sets_out}
use Rattle.p4_emit.proofs.Switches.{block_end, block_step}
use Rattle.p4_emit.proofs.print.+block.Goals as goal

pub emit_block-loop-stmt-init : goal.emit_block-loop-stmt-init
emit_block-loop-stmt-init t c = sets_out _ _
