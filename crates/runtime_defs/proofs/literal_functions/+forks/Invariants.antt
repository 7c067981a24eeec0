use Rattle.std.proofs.Common.{◌≡◌, drop, map}
use Rattle.cocoon_num.specs.Lists.{is_one_of}
use Rattle.cocoon_syntax.specs.TreeOf.{block_of, stmt_of}
use Rattle.runtime_defs.specs.Sets.{forks_in}
use Rattle.runtime_defs.proofs.literal_functions.+forks.Given as goal

abbrev pub invariant-is_in_forks-loop-stmt : goal.invariant-is_in_forks-loop-stmt
invariant-is_in_forks-loop-stmt l = is_one_of (forks_in (block_of (map stmt_of (drop l.stmt-index l.stmts)))) l.function ≡ is_one_of (forks_in (block_of (map stmt_of l.stmts))) l.function
