use Rattle.std.proofs.Common.{rules, arith, ◌≡◌, ◌+◌, length, Err, Ok, codes}
use Rattle.cocoon_syntax.specs.TreeOf.{param_of}
use Rattle.parsing.specs.PlainParser.{marked, param_from}
use Rattle.cocoon_text.specs.Agrees.{Moves}
use Rattle.cocoon_text.specs.Phrases.{choosing_of}
use Rattle.cocoon_text.proofs.Blocks.{choosing_agrees, choosing_fails}
use Rattle.cocoon_text.proofs.Eventually.{agrees_marked, at_once, fails_as, moves_marked, moves_with_first}
use Rattle.cocoon_text.proofs.stmts.choosing.Goals as goal

pub returns-in_err-expect-clause-agrees : goal.returns-in_err-expect-clause-agrees
unfolding marked
returns-in_err-expect-clause-agrees c = record { depth = 0; agrees = λ n h. let e0 = c.in_err-expect.ensures.is in search rules }

pub returns-in_err-variable-clause-agrees : goal.returns-in_err-variable-clause-agrees
returns-in_err-variable-clause-agrees c =
    let e : c.from_residual-in_err-variable.result ≡ Err c.in_err-variable.field-0.0 = search rules in
    fails_as param_of choosing_of c.in_err-variable.field-0.0 e (λ k g. choosing_fails c.args.source.now c.args.pos k (search rules) g)
    (agrees_marked c.args.source.now _ (λ n. param_from c.args.source.now (c.args.pos + 1)) param_of _ _ (at_once c.param.ensures.agrees) c.in_err-variable.ensures)

pub returns-clause-agrees : goal.returns-clause-agrees
returns-clause-agrees c = choosing_agrees c.args.source.now c.args.pos _ _ (search rules)
    (agrees_marked c.args.source.now _ (λ n. param_from c.args.source.now (c.args.pos + 1)) param_of _ _ (at_once c.param.ensures.agrees) c.in_ok-variable.ensures)
    c.expr_then.ensures.agrees c.both.ensures

pub returns-clause-moves : goal.returns-clause-moves
returns-clause-moves c =
    let m : Moves c.args.pos (length c.args.source.now) (Ok (c.in_ok-variable.variable, c.in_ok-variable.next)) = moves_marked c.args.source.now (codes "|") c.args.pos (c.args.pos + 1) c.param.result (Ok (c.in_ok-variable.variable, c.in_ok-variable.next)) (omega arith) c.param.ensures.moves c.in_ok-variable.ensures in
    moves_with_first _ c.args.pos _ _ _ _ (omega (arith, m.0)) c.expr_then.ensures.moves c.both.ensures
