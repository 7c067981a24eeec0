use Rattle.std.proofs.Common.{◌≡◌, List, map, take, reverse}
use Rattle.cocoon_num.specs.Tree.{FunctionDecl}
use Rattle.cocoon_syntax.specs.TreeOf.{expr_of, exprs_of}
use Rattle.cocoon_types.specs.Limits.{exprs_nodes, reported}
use Rattle.cocoon_resolve.specs.Forms.{Knows}
use Rattle.cocoon_resolve.proofs.body_nodes.exprs_count.Given as goal

abbrev pub invariant-loop-expr : goal.invariant-loop-expr
invariant-loop-expr l = (fs : List FunctionDecl) → Knows fs (reverse l.known) → l.sum ≡ reported (exprs_nodes fs (exprs_of (map expr_of (take l.expr-index l.exprs))))
