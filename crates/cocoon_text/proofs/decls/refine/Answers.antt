use Rattle.std.proofs.Common.{rules, arith, ◌≡◌, ◌+◌, length, map, Err, codes}
use Rattle.cocoon_syntax.specs.TreeOf.{name_of, decl_of, refine_of}
use Rattle.parsing.specs.PlainParser.{after, marked, reserved, numbered, refine_from}
use Rattle.cocoon_text.specs.Phrases.{refinement}
use Rattle.cocoon_text.proofs.Eventually.{advances_marked, moves_made}
use Rattle.cocoon_text.proofs.Refinements.{limit_fails, refine_agrees}
use Rattle.cocoon_text.proofs.decls.refine.Goals as goal

pub returns-in_err-expect_keyword-clause-agrees : goal.returns-in_err-expect_keyword-clause-agrees
unfolding after marked reserved numbered refine_from
returns-in_err-expect_keyword-clause-agrees c = record { depth = 0; agrees = λ n h. let e0 = c.in_err-expect_keyword.ensures.is in search rules }

pub returns-in_err-roles-clause-agrees : goal.returns-in_err-roles-clause-agrees
unfolding after marked reserved numbered refine_from
returns-in_err-roles-clause-agrees c = record { depth = c.in_err-roles.ensures.agrees.depth; agrees = λ n h. let e0 = c.in_ok-expect_keyword.ensures.is in let e1 = c.in_err-roles.ensures.agrees.agrees n (omega arith) in search rules }

pub returns-in_err-within-clause-agrees : goal.returns-in_err-within-clause-agrees
returns-in_err-within-clause-agrees c =
    let e : c.from_residual-in_err-within.result ≡ Err c.in_err-within.field-0.0 = search rules in
    limit_fails c.args.source.now c.args.pos c.in_err-within.field-0.0 _ c.in_ok-expect_keyword.ensures.is c.in_ok-roles.ensures.agrees c.in_err-within.ensures.is e

pub returns-clause-agrees : goal.returns-clause-agrees
returns-clause-agrees c = refine_agrees c.args.source.now c.args.pos c.token_index.result c.decls-decls.result c.then-decls.result c.refine_node.result c.token_index.ensures c.in_ok-expect_keyword.ensures.is c.in_ok-roles.ensures.agrees c.in_ok-within.ensures.is c.decls-decls.ensures.agrees c.then-decls.ensures c.refine_node.ensures

pub returns-clause-moves : goal.returns-clause-moves
returns-clause-moves c = moves_made (λ v. map decl_of v.items) refine_of (refinement c.token_index.result (map name_of c.in_ok-roles.roles.items) c.in_ok-within.within) c.args.pos c.args.pos (length c.args.source.now) c.then-decls.result c.refine_node.result (omega arith)
    (advances_marked c.args.source.now (codes "}") c.args.pos (c.in_ok-roles.next + 3) c.decls-decls.result c.then-decls.result (let h = c.in_ok-roles.ensures.moves in omega (arith, h.0)) c.decls-decls.ensures.moves c.then-decls.ensures) c.refine_node.ensures
