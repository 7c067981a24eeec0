use Rattle.std.proofs.Common.{rules, arith, length}
use Rattle.cocoon_num.specs.Tree.{set_field}
use Rattle.cocoon_syntax.specs.TreeOf.{expr_of, name_of, stmt_of}
use Rattle.parsing.specs.PlainParser.{after, setting_from}
use Rattle.cocoon_text.proofs.Closings.{setting_agrees}
use Rattle.cocoon_text.proofs.Eventually.{moves_made}
use Rattle.cocoon_text.proofs.stmts.setting.Goals as goal

pub returns-in_err-header-clause-agrees : goal.returns-in_err-header-clause-agrees
unfolding after setting_from
returns-in_err-header-clause-agrees c = record { depth = 0; agrees = λ n h. let e0 = c.in_err-header.ensures.agrees in search rules }

pub returns-clause-agrees : goal.returns-clause-agrees
returns-clause-agrees c = setting_agrees c.args.source.now c.args.pos c.token_index.result c.assigned-value.result c.set_node.result c.token_index.ensures c.in_ok-header.ensures.agrees c.assigned-value.ensures.agrees c.set_node.ensures

pub returns-clause-moves : goal.returns-clause-moves
returns-clause-moves c = moves_made expr_of stmt_of (λ x. set_field c.token_index.result (name_of c.in_ok-header.header) (name_of c.in_ok-header.field) x) c.args.pos c.in_ok-header.next (length c.args.source.now) c.assigned-value.result c.set_node.result (let h = c.in_ok-header.ensures.moves in omega (arith, h.0)) c.assigned-value.ensures.moves c.set_node.ensures
