use Rattle.std.proofs.Common.{rules, arith, ◌≡◌, Err, option_map}
use Rattle.cocoon_syntax.specs.TreeOf.{expr_of, result_of}
use Rattle.parsing.specs.PlainParser.{body_from}
use Rattle.cocoon_text.specs.Phrases.{answer_of}
use Rattle.cocoon_text.proofs.Eventually.{agrees_with_first, at_once, fails_as, first_fails, moves_with_first}
use Rattle.cocoon_text.proofs.decls.answer.Goals as goal

pub returns-in_err-kind-clause-agrees : goal.returns-in_err-kind-clause-agrees
returns-in_err-kind-clause-agrees c =
    let e : c.from_residual.result ≡ Err c.in_err-kind.field-0.0 = search rules in
    fails_as result_of answer_of c.in_err-kind.field-0.0 e (λ k g. first_fails _ g) (at_once c.in_err-kind.ensures.agrees)

pub returns-clause-agrees : goal.returns-clause-agrees
returns-clause-agrees c = agrees_with_first result_of (λ n j. body_from c.args.source.now n j) (λ v. option_map expr_of v) (λ x y. record { kind = x; body = y }) _ _ (at_once c.in_ok-kind.ensures.agrees) c.value.ensures.agrees c.both.ensures

pub returns-clause-moves : goal.returns-clause-moves
returns-clause-moves c = moves_with_first _ c.args.pos _ _ _ _ (let h = c.in_ok-kind.ensures.moves in omega (arith, h.0)) c.value.ensures.moves c.both.ensures
