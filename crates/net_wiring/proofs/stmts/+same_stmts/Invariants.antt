use Rattle.std.proofs.Common.{◌≡◌, drop, map}
use Rattle.p4_ir.specs.Program.{block_of, stmt_of}
use Rattle.net_wiring.specs.SameTrees.{same_block}
use Rattle.net_wiring.proofs.stmts.+same_stmts.Given as goal

abbrev pub invariant-same_stmts-loop-stmt : goal.invariant-same_stmts-loop-stmt
invariant-same_stmts-loop-stmt l =
    same_block (block_of (map stmt_of (drop l.stmt-index l.stmts))) (block_of (map stmt_of l.rest)) ≡ same_block (block_of (map stmt_of l.stmts)) (block_of (map stmt_of l.others))
