use Rattle.std.proofs.Common.{◌≡◌, Some, drop, map}
use Rattle.p4_ir.specs.Program.{block_of, stmt_of}
use Rattle.p4_kinds.specs.Depths.{after_block}
use Rattle.p4_kinds.proofs.depth.is_shallow.Given as goal

abbrev pub invariant-loop-stmt : goal.invariant-loop-stmt
invariant-loop-stmt l = after_block (block_of (map stmt_of (drop l.stmt-index l.stmts))) l.depth ≡ after_block (block_of (map stmt_of l.stmts)) (Some (record { brackets = 2; operators = 0 }))
