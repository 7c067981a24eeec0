use Rattle.std.proofs.Common.{rules, arith}
use Rattle.parsing.specs.PlainParser.{after, marked, role_body_from}
use Rattle.cocoon_text.proofs.decls.body.Goals as goal

pub returns-in_err-expect-clause-agrees : goal.returns-in_err-expect-clause-agrees
unfolding after marked role_body_from
returns-in_err-expect-clause-agrees c = record { depth = 0; agrees = λ n h. let e0 = c.in_err-expect.ensures.is in search rules }

pub returns-in_err-stmts-clause-agrees : goal.returns-in_err-stmts-clause-agrees
unfolding after marked role_body_from
returns-in_err-stmts-clause-agrees c = record { depth = c.in_err-stmts.ensures.agrees.depth; agrees = λ n h. let e0 = c.in_ok-expect.ensures.is in let e1 = c.in_err-stmts.ensures.agrees.agrees n (omega arith) in search rules }

pub returns-clause-agrees : goal.returns-clause-agrees
unfolding after marked role_body_from
returns-clause-agrees c = record { depth = c.in_ok-stmts.ensures.agrees.depth; agrees = λ n h. let e0 = c.in_ok-expect.ensures.is in let e1 = c.in_ok-stmts.ensures.agrees.agrees n (omega arith) in search rules }

pub returns-then-is_mark-clause-agrees : goal.returns-then-is_mark-clause-agrees
unfolding after marked role_body_from
returns-then-is_mark-clause-agrees c = record { depth = 0; agrees = λ n h. search rules }
