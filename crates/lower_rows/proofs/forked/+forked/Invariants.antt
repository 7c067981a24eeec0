use Rattle.std.proofs.Common.{◌≡◌, drop, map}
use Rattle.cocoon_num.specs.Lists.{is_one_of}
use Rattle.cocoon_syntax.specs.TreeOf.{block_of, stmt_of}
use Rattle.runtime_defs.specs.Sets.{forks_in}
use Rattle.lower_rows.proofs.forked.+forked.Given as goal

abbrev pub invariant-block_forks-loop-stmt : goal.invariant-block_forks-loop-stmt
invariant-block_forks-loop-stmt l =
    is_one_of (forks_in (block_of (map stmt_of l.stmts))) l.name ≡ is_one_of (forks_in (block_of (map stmt_of (drop l.stmt-index l.stmts)))) l.name
