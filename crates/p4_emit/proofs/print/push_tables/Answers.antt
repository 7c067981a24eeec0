use Rattle.std.proofs.Common.{map, refl, rules}
use Rattle.p4_ir.specs.Program.{program_of, table_of}
use Rattle.p4_emit.specs.Printed.{each_text, table_text}
use Rattle.p4_emit.proofs.Printing.{sets_out, walk_step, walk_end}
use Rattle.p4_emit.proofs.print.push_tables.Goals as goal

pub loop-table-init : goal.loop-table-init
loop-table-init c = sets_out _ _

pub loop-table-preserved : goal.loop-table-preserved
loop-table-preserved c = walk_step (λ ys. each_text (table_text (program_of c.args.program.now)) (map table_of ys)) (λ y. (table_text (program_of c.args.program.now)) (table_of y)) (λ y ys. refl) c.args.tables.now c.loop-table.table-index c.table-item.result c.table-item.result (search rules) (search rules) c.loop-table.invariant c.push_table.ensures

pub returns : goal.returns
returns c = walk_end (λ ys. each_text (table_text (program_of c.args.program.now)) (map table_of ys)) refl c.args.tables.now c.loop-table.table-index (search rules) c.loop-table.invariant
