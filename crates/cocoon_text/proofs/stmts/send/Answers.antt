use Rattle.std.proofs.Common.{rules, arith, ◌+◌, length, map, codes}
use Rattle.cocoon_num.specs.Tree.{send}
use Rattle.cocoon_syntax.specs.TreeOf.{expr_of, exprs_of, name_of, stmt_of}
use Rattle.parsing.specs.PlainParser.{marked, named, send_from}
use Rattle.cocoon_text.proofs.Eventually.{moves_made, moves_marked}
use Rattle.cocoon_text.proofs.Rows.{sent}
use Rattle.cocoon_text.proofs.stmts.send.Goals as goal

pub returns-in_err-role-clause-agrees : goal.returns-in_err-role-clause-agrees
unfolding named send_from
returns-in_err-role-clause-agrees c = record { depth = 0; agrees = λ n h. let e0 = c.in_err-role.ensures.is in search rules }

pub returns-in_err-expect-clause-agrees : goal.returns-in_err-expect-clause-agrees
unfolding marked named send_from
returns-in_err-expect-clause-agrees c = record { depth = 0; agrees = λ n h. let e0 = c.in_ok-role.ensures.is in let e1 = c.in_err-expect.ensures.is in search rules }

pub returns-clause-agrees : goal.returns-clause-agrees
returns-clause-agrees c = sent c.args.source.now c.args.pos c.token_index.result (name_of c.in_ok-role.role) c.exprs.result c.then-args.result c.then-args-2.result _ c.token_index.ensures c.in_ok-role.ensures.is c.in_ok-expect.ensures.is c.exprs.ensures.agrees c.then-args.ensures c.then-args-2.ensures c.send_node.ensures

pub returns-clause-moves : goal.returns-clause-moves
returns-clause-moves c = moves_made (λ v. exprs_of (map expr_of v.items)) stmt_of (λ xs. send c.token_index.result (name_of c.in_ok-role.role) xs) c.args.pos c.args.pos (length c.args.source.now) c.then-args-2.result _ (omega arith)
    (moves_marked c.args.source.now (codes ";") c.args.pos c.args.pos c.then-args.result _ (omega arith) (moves_marked c.args.source.now (codes "]") c.args.pos (c.args.pos + 3) c.exprs.result _ (omega arith) c.exprs.ensures.moves c.then-args.ensures) c.then-args-2.ensures) c.send_node.ensures
