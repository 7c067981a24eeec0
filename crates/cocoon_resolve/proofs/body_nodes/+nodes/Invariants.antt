use Rattle.std.proofs.Common.{◌≡◌, List, map, take, reverse}
use Rattle.cocoon_num.specs.Tree.{FunctionDecl}
use Rattle.cocoon_syntax.specs.TreeOf.{block_of, stmt_of}
use Rattle.cocoon_types.specs.Limits.{block_nodes, reported}
use Rattle.cocoon_resolve.specs.Forms.{Knows}
use Rattle.cocoon_resolve.proofs.body_nodes.+nodes.Given as goal

abbrev pub invariant-count_nodes-loop-stmt : goal.invariant-count_nodes-loop-stmt
invariant-count_nodes-loop-stmt l = (fs : List FunctionDecl) → Knows fs (reverse l.known) → l.sum ≡ reported (block_nodes fs (block_of (map stmt_of (take l.stmt-index l.stmts))))
