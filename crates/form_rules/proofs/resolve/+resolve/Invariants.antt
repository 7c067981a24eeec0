use Rattle.std.proofs.Common.{drop, map}
use Rattle.cocoon_syntax.specs.TreeOf.{block_of, stmt_of}
use Rattle.form_rules.specs.Following.{names_of}
use Rattle.form_rules.proofs.Running.{Made}
use Rattle.form_rules.proofs.resolve.+resolve.Given as goal

abbrev pub invariant-resolve_block-loop-stmt : goal.invariant-resolve_block-loop-stmt
invariant-resolve_block-loop-stmt l = Made (names_of l.fn.scope) (names_of l.scope) (block_of (map stmt_of (drop l.stmt-index l.stmts))) (block_of (map stmt_of l.stmts)) l.steps.items
