use Rattle.std.proofs.Common.{◌≡◌, ℕ, List, drop, map}
use Rattle.p4_ir.specs.P4Kinds.{block_fits}
use Rattle.p4_ir.specs.Program.{block_of, program_of, stmt_of}
use Rattle.p4_kinds.specs.Seen.{HasNumbers}
use Rattle.p4_kinds.specs.Typed.{within}
use Rattle.p4_kinds.proofs.stmts.body_fits.Given as goal

abbrev pub invariant-loop-stmt : goal.invariant-loop-stmt
invariant-loop-stmt l = (numbers : List ℕ) → HasNumbers l.tables.keys numbers → block_fits (within (program_of l.program) l.in_ingress numbers) (block_of (map stmt_of (drop l.stmt-index l.stmts))) ≡ block_fits (within (program_of l.program) l.in_ingress numbers) (block_of (map stmt_of l.stmts))
