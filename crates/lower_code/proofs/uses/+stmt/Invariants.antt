use Rattle.std.proofs.Common.{◌≡◌, drop, map}
use Rattle.cocoon_syntax.specs.TreeOf.{block_of, stmt_of}
use Rattle.lowering.specs.LowerBlock.{in_block}
use Rattle.lower_code.proofs.uses.+stmt.Given as goal

abbrev pub invariant-block_uses-loop-stmt : goal.invariant-block_uses-loop-stmt
invariant-block_uses-loop-stmt l = in_block l.name (block_of (map stmt_of l.stmts)) ≡ in_block l.name (block_of (map stmt_of (drop l.stmt-index l.stmts)))
