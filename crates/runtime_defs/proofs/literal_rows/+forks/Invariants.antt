use Rattle.std.proofs.Common.{ℕ, List, ◌++◌, take, map}
use Rattle.cocoon_syntax.specs.TreeOf.{block_of, design_of, stmt_of}
use Rattle.runtime_defs.specs.Sets.{forks_in, Holds}
use Rattle.runtime_defs.proofs.literal_rows.+forks.Given as goal

abbrev pub invariant-add_forks-loop-stmt : goal.invariant-add_forks-loop-stmt
invariant-add_forks-loop-stmt l = (fs : List (List ℕ)) → Holds (design_of l.checked) fs l.fn.set → Holds (design_of l.checked) (forks_in (block_of (map stmt_of (take l.stmt-index l.stmts))) ++ fs) l.set
