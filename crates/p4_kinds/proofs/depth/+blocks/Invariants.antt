use Rattle.std.proofs.Common.{◌≡◌, drop, map}
use Rattle.p4_ir.specs.Program.{block_of, stmt_of}
use Rattle.p4_kinds.specs.Depths.{after_block, ended, opened}
use Rattle.p4_kinds.proofs.depth.+blocks.Given as goal

abbrev pub invariant-inside-loop-stmt : goal.invariant-inside-loop-stmt
invariant-inside-loop-stmt l = after_block (block_of (map stmt_of (drop l.stmt-index l.stmt-items))) l.inner ≡ after_block (block_of (map stmt_of l.stmt-items)) (ended (opened l.fn.depth))
