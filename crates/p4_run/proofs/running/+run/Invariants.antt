use Rattle.std.proofs.Common.{◌≡◌, drop, map}
use Rattle.p4_run.specs.Held.{held}
use Rattle.p4_run.specs.Effects.{stmt_by, stmts_by}
use Rattle.p4_run.proofs.running.+run.Given as goal

-- from what is held now the statements that are left end as all do
abbrev pub invariant-run_all-loop-stmt : goal.invariant-run_all-loop-stmt
invariant-run_all-loop-stmt l =
    stmts_by (map stmt_by (drop l.stmt-index l.stmts)) l.tables (held l.registers) ≡ stmts_by (map stmt_by l.stmts) l.tables (held l.fn.registers)
