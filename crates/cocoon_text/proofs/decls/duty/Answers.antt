use Rattle.std.proofs.Common.{rules, arith, ◌≡◌, Err, option_map}
use Rattle.cocoon_syntax.specs.TreeOf.{body_of, expr_of}
use Rattle.parsing.specs.PlainParser.{role_body_from}
use Rattle.cocoon_text.specs.Phrases.{duty_of}
use Rattle.cocoon_text.proofs.Eventually.{agrees_with_first, fails_as, first_fails, moves_with_first}
use Rattle.cocoon_text.proofs.decls.duty.Goals as goal

pub returns-in_err-guard-clause-agrees : goal.returns-in_err-guard-clause-agrees
returns-in_err-guard-clause-agrees c =
    let e : c.from_residual.result ≡ Err c.in_err-guard.field-0.0 = search rules in
    fails_as expr_of duty_of c.in_err-guard.field-0.0 e (λ k g. first_fails _ g) c.in_err-guard.ensures.agrees

pub returns-clause-agrees : goal.returns-clause-agrees
returns-clause-agrees c = agrees_with_first expr_of (λ n j. role_body_from c.args.source.now n j) (λ b. option_map body_of b) (λ x y. record { guard = x; body = y }) _ _ c.in_ok-guard.ensures.agrees c.body.ensures.agrees c.both.ensures

pub returns-clause-moves : goal.returns-clause-moves
returns-clause-moves c = moves_with_first _ c.args.pos _ _ _ _ (let h = c.in_ok-guard.ensures.moves in omega (arith, h.0)) c.body.ensures.moves c.both.ensures
