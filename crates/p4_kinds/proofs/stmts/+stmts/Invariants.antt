use Rattle.std.proofs.Common.{◌≡◌, ℕ, List, drop, map}
use Rattle.p4_ir.specs.P4Kinds.{block_fits}
use Rattle.p4_ir.specs.Program.{block_of, program_of, stmt_of}
use Rattle.p4_kinds.specs.Seen.{HasNumbers}
use Rattle.p4_kinds.specs.Typed.{within}
use Rattle.p4_kinds.proofs.stmts.+stmts.Given as goal

abbrev pub invariant-block_fits-loop-stmt : goal.invariant-block_fits-loop-stmt
invariant-block_fits-loop-stmt l = (numbers : List ℕ) → HasNumbers l.tables.keys numbers → block_fits (within (program_of l.program) l.in_ingress numbers) (block_of (map stmt_of (drop l.stmt-index l.stmt-items))) ≡ block_fits (within (program_of l.program) l.in_ingress numbers) (block_of (map stmt_of l.stmt-items))
