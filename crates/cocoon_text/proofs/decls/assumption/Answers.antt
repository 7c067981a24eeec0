use Rattle.std.proofs.Common.{rules, arith, ◌≡◌, Err, map}
use Rattle.cocoon_syntax.specs.TreeOf.{decl_of, expr_of, param_of}
use Rattle.parsing.specs.PlainParser.{after, marked, assumption_from}
use Rattle.cocoon_text.proofs.Closings.{assumption_reads, assumption_fails}
use Rattle.cocoon_text.proofs.Eventually.{eventual_read, agrees_read, fails_as}
use Rattle.cocoon_text.proofs.decls.assumption.Goals as goal

pub returns-in_err-expect-clause-agrees : goal.returns-in_err-expect-clause-agrees
unfolding after marked assumption_from
returns-in_err-expect-clause-agrees c = record { depth = 0; agrees = λ n h. let e0 = c.in_err-expect.ensures.is in search rules }

pub returns-in_err-params-clause-agrees : goal.returns-in_err-params-clause-agrees
unfolding after marked assumption_from
returns-in_err-params-clause-agrees c = record { depth = c.in_err-params.ensures.agrees.depth; agrees = λ n h. let e0 = c.in_ok-expect.ensures.is in let e1 = c.in_err-params.ensures.agrees.agrees n (omega arith) in search rules }

pub returns-in_err-expect-2-clause-agrees : goal.returns-in_err-expect-2-clause-agrees
unfolding after marked assumption_from
returns-in_err-expect-2-clause-agrees c = record { depth = c.in_ok-params.ensures.agrees.depth; agrees = λ n h. let e0 = c.in_ok-expect.ensures.is in let e1 = c.in_ok-params.ensures.agrees.agrees n (omega arith) in let e2 = c.in_err-expect-2.ensures.is in search rules }

pub returns-in_err-body-clause-agrees : goal.returns-in_err-body-clause-agrees
returns-in_err-body-clause-agrees c =
    let e : c.from_residual-in_err-body.result ≡ Err c.in_err-body.field-0.0 = search rules in
    fails_as expr_of decl_of c.in_err-body.field-0.0 e
    (λ k g. assumption_fails c.args.source.now c.args.pos c.in_ok-expect.ensures.is (eventual_read (λ v. map param_of v.items) c.in_ok-params.ensures.agrees) c.in_ok-expect-2.ensures.is g)
    c.in_err-body.ensures.agrees

pub returns-clause-agrees : goal.returns-clause-agrees
returns-clause-agrees c = agrees_read decl_of
    (assumption_reads c.args.source.now c.args.pos c.in_ok-expect.ensures.is (eventual_read (λ v. map param_of v.items) c.in_ok-params.ensures.agrees) c.in_ok-expect-2.ensures.is (eventual_read expr_of c.in_ok-body.ensures.agrees) (search rules))
