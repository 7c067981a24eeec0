use Rattle.std.proofs.Common.{rules, arith, length}
use Rattle.cocoon_num.specs.Tree.{let_}
use Rattle.cocoon_syntax.specs.TreeOf.{expr_of, name_of, stmt_of}
use Rattle.parsing.specs.PlainParser.{after, let_from}
use Rattle.cocoon_text.proofs.Closings.{let_agrees}
use Rattle.cocoon_text.proofs.Eventually.{moves_made}
use Rattle.cocoon_text.proofs.stmts.binding.Goals as goal

pub returns-in_err-variable-clause-agrees : goal.returns-in_err-variable-clause-agrees
unfolding after let_from
returns-in_err-variable-clause-agrees c = record { depth = 0; agrees = λ n h. let e0 = c.in_err-variable.ensures.agrees in search rules }

pub returns-clause-agrees : goal.returns-clause-agrees
returns-clause-agrees c = let_agrees c.args.source.now c.args.pos c.token_index.result c.assigned-value.result c.let_node.result c.token_index.ensures c.in_ok-variable.ensures.agrees c.assigned-value.ensures.agrees c.let_node.ensures

pub returns-clause-moves : goal.returns-clause-moves
returns-clause-moves c = moves_made expr_of stmt_of (λ x. let_ c.token_index.result (name_of c.in_ok-variable.variable.name) c.in_ok-variable.variable.width x) c.args.pos c.in_ok-variable.next (length c.args.source.now) c.assigned-value.result c.let_node.result (let h = c.in_ok-variable.ensures.moves in omega (arith, h.0)) c.assigned-value.ensures.moves c.let_node.ensures
