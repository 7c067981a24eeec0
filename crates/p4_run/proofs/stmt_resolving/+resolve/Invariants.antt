use Rattle.std.proofs.Common.{◌+◌, ◌*◌, IsTrue, drop, map, take}
use Rattle.p4_ir.specs.NetOf.{table_rows_of}
use Rattle.p4_ir.specs.P4Kinds.{block_fits}
use Rattle.p4_ir.specs.Program.{block_of, stmt_of}
use Rattle.p4_run.specs.Doing.{EachDoes}
use Rattle.p4_run.specs.Resolving.{program_at}
use Rattle.p4_run.specs.Controls.{within_in}
use Rattle.p4_run.specs.Effects.{stmt_by}
use Rattle.p4_run.proofs.StmtSizes.{block_size, stmt_size}
use Rattle.p4_run.proofs.stmt_resolving.+resolve.Given as goal

abbrev pub decreases-resolved_stmt : goal.decreases-resolved_stmt
decreases-resolved_stmt l = 2 * stmt_size (stmt_of l.stmt.now)

abbrev pub decreases-resolved_stmts : goal.decreases-resolved_stmts
decreases-resolved_stmts l = 2 * block_size (block_of (map stmt_of l.stmts.now)) + 1

abbrev pub invariant-resolved_stmts-loop-stmt : goal.invariant-resolved_stmts-loop-stmt
invariant-resolved_stmts-loop-stmt l = record {
  kinds : IsTrue (block_fits (within_in (program_at l.names) l.names.in_ingress) (block_of (map stmt_of (drop l.stmt-index l.stmts))));
  each : EachDoes (program_at l.names) (map table_rows_of l.rows) l.names.in_ingress l.tables (map stmt_of (take l.stmt-index l.stmts)) (map stmt_by l.codes.items);
}
