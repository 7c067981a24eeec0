use Rattle.std.proofs.Common.{arith, ◌+◌, length, subst}
use Rattle.cocoon_num.specs.Tree.{assume}
use Rattle.cocoon_syntax.specs.TreeOf.{expr_of, stmt_of}
use Rattle.parsing.specs.Joins.{Makes}
use Rattle.cocoon_text.proofs.Closings.{ended_made}
use Rattle.cocoon_text.proofs.Eventually.{moves_made}
use Rattle.cocoon_text.proofs.stmts.assume.Goals as goal

pub returns-clause-agrees : goal.returns-clause-agrees
returns-clause-agrees c = ended_made c.args.source.now (c.args.pos + 1) (λ x. assume c.args.pos x) c.expr_then-condition.result c.assume_node.result c.expr_then-condition.ensures.agrees
    (subst (λ z. Makes expr_of stmt_of (λ x. assume z x) c.expr_then-condition.result c.assume_node.result) c.token_index.ensures c.assume_node.ensures)

pub returns-clause-moves : goal.returns-clause-moves
returns-clause-moves c = moves_made expr_of stmt_of (λ x. assume c.token_index.result x) c.args.pos (c.args.pos + 1) (length c.args.source.now) c.expr_then-condition.result c.assume_node.result (omega arith) c.expr_then-condition.ensures.moves c.assume_node.ensures
