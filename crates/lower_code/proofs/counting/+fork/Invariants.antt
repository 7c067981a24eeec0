use Rattle.std.proofs.Common.{◌≡◌, ◌+◌, drop, map}
use Rattle.cocoon_syntax.specs.TreeOf.{block_of, stmt_of}
use Rattle.lowering.specs.Counting as spec
use Rattle.lower_code.proofs.counting.+fork.Given as goal

abbrev pub invariant-count_forks-loop-stmt : goal.invariant-count_forks-loop-stmt
invariant-count_forks-loop-stmt l =
    spec.forks (block_of (map stmt_of l.stmts)) ≡ l.forks + spec.forks (block_of (map stmt_of (drop l.stmt-index l.stmts)))
