use Rattle.std.proofs.Common.{rules, arith, ◌+◌, length, map, codes}
use Rattle.cocoon_syntax.specs.TreeOf.{header_of, name_of, param_of}
use Rattle.cocoon_text.specs.Phrases.{headed}
use Rattle.cocoon_text.proofs.Eventually.{moves_made, moves_marked}
use Rattle.cocoon_text.proofs.Refinements.{header_agrees}
use Rattle.parsing.specs.PlainParser.{after, marked, named, reserved, header_from}
use Rattle.cocoon_text.proofs.decls.header.Goals as goal

pub returns-in_err-expect_keyword-clause-agrees : goal.returns-in_err-expect_keyword-clause-agrees
unfolding after marked named reserved header_from
returns-in_err-expect_keyword-clause-agrees c = record { depth = 0; agrees = λ n h. let e0 = c.in_err-expect_keyword.ensures.is in search rules }

pub returns-in_err-name-clause-agrees : goal.returns-in_err-name-clause-agrees
unfolding after marked named reserved header_from
returns-in_err-name-clause-agrees c = record { depth = 0; agrees = λ n h. let e0 = c.in_ok-expect_keyword.ensures.is in let e1 = c.in_err-name.ensures.is in search rules }

pub returns-in_err-expect-clause-agrees : goal.returns-in_err-expect-clause-agrees
unfolding after marked named reserved header_from
returns-in_err-expect-clause-agrees c = record { depth = 0; agrees = λ n h. let e0 = c.in_ok-expect_keyword.ensures.is in let e1 = c.in_ok-name.ensures.is in let e2 = c.in_err-expect.ensures.is in search rules }

pub returns-clause-agrees : goal.returns-clause-agrees
returns-clause-agrees c = header_agrees c.args.source.now c.args.pos (name_of c.in_ok-name.name) c.fields.result c.then-fields.result c.header_node.result c.in_ok-expect_keyword.ensures.is c.in_ok-name.ensures.is c.in_ok-expect.ensures.is c.fields.ensures.agrees c.then-fields.ensures c.header_node.ensures

pub returns-clause-moves : goal.returns-clause-moves
returns-clause-moves c = moves_made (λ v. map param_of v.items) header_of (headed (name_of c.in_ok-name.name)) c.args.pos c.args.pos (length c.args.source.now) c.then-fields.result c.header_node.result (omega arith)
    (moves_marked c.args.source.now (codes "}") c.args.pos (c.args.pos + 3) c.fields.result c.then-fields.result (omega arith) c.fields.ensures.moves c.then-fields.ensures) c.header_node.ensures
