use Rattle.std.proofs.Common.{rules, arith, ◌≡◌, ◌+◌, length, map, Ok, Err, codes}
use Rattle.cocoon_num.specs.Tree.{a_row}
use Rattle.cocoon_syntax.specs.TreeOf.{const_of, entry_of, name_of, pattern_of}
use Rattle.parsing.specs.PlainParser.{marked, named, row_from}
use Rattle.cocoon_text.specs.Agrees.{Moves}
use Rattle.cocoon_text.specs.ExprPhrases.{then_mark}
use Rattle.cocoon_text.proofs.Eventually.{agrees_marked, fails_as, moves_made, moves_marked}
use Rattle.cocoon_text.proofs.Rows.{patterns_at, row_agrees, row_fails}
use Rattle.cocoon_text.proofs.defs.row.Goals as goal

pub returns-in_err-function-clause-agrees : goal.returns-in_err-function-clause-agrees
unfolding named row_from
returns-in_err-function-clause-agrees c = record { depth = 0; agrees = λ n h. let e0 = c.in_err-function.ensures.is in search rules }

pub returns-in_err-expect-clause-agrees : goal.returns-in_err-expect-clause-agrees
unfolding marked named row_from
returns-in_err-expect-clause-agrees c = record { depth = 0; agrees = λ n h. let e0 = c.in_ok-function.ensures.is in let e1 = c.in_err-expect.ensures.is in search rules }

pub returns-in_err-patterns-clause-agrees : goal.returns-in_err-patterns-clause-agrees
returns-in_err-patterns-clause-agrees c =
    let ts = c.args.source.now in
    let e : c.from_residual-in_err-patterns.result ≡ Err c.in_err-patterns.field-0.0 = search rules in
    fails_as (λ v. map pattern_of v.items) entry_of c.in_err-patterns.field-0.0 e (row_fails ts c.args.pos (name_of c.in_ok-function.function) c.in_ok-function.ensures.is c.in_ok-expect.ensures.is)
    (agrees_marked ts (codes "=") (λ n. then_mark ts (codes ")") (patterns_at ts n (c.args.pos + 3))) (λ v. map pattern_of v.items) c.then-patterns.result (Err c.in_err-patterns.field-0.0)
    (agrees_marked ts (codes ")") (λ n. patterns_at ts n (c.args.pos + 3)) (λ v. map pattern_of v.items) c.patterns.result c.then-patterns.result c.patterns.ensures.agrees c.then-patterns.ensures) c.in_err-patterns.ensures)

pub returns-clause-agrees : goal.returns-clause-agrees
returns-clause-agrees c =
    let ts = c.args.source.now in
    row_agrees ts c.args.pos (name_of c.in_ok-function.function) c.in_ok-patterns.patterns c.constant.result c.then-2.result _ c.in_ok-function.ensures.is c.in_ok-expect.ensures.is
    (agrees_marked ts (codes "=") (λ n. then_mark ts (codes ")") (patterns_at ts n (c.args.pos + 3))) (λ v. map pattern_of v.items) c.then-patterns.result (Ok (c.in_ok-patterns.patterns, c.in_ok-patterns.next))
    (agrees_marked ts (codes ")") (λ n. patterns_at ts n (c.args.pos + 3)) (λ v. map pattern_of v.items) c.patterns.result c.then-patterns.result c.patterns.ensures.agrees c.then-patterns.ensures) c.in_ok-patterns.ensures)
    c.constant.ensures.agrees c.then-2.ensures c.row_node.ensures

pub returns-clause-moves : goal.returns-clause-moves
returns-clause-moves c =
    let ts = c.args.source.now in
    let m : Moves c.args.pos (length ts) (Ok (c.in_ok-patterns.patterns, c.in_ok-patterns.next)) =
    moves_marked ts (codes "=") c.args.pos c.args.pos c.then-patterns.result (Ok (c.in_ok-patterns.patterns, c.in_ok-patterns.next)) (omega arith)
    (moves_marked ts (codes ")") c.args.pos (c.args.pos + 3) c.patterns.result c.then-patterns.result (omega arith) c.patterns.ensures.moves c.then-patterns.ensures) c.in_ok-patterns.ensures in
    moves_made const_of entry_of (λ v. a_row (name_of c.in_ok-function.function) (map pattern_of c.in_ok-patterns.patterns.items) v) c.args.pos c.args.pos (length ts) c.then-2.result _ (omega arith)
    (moves_marked ts (codes ";") c.args.pos c.in_ok-patterns.next c.constant.result c.then-2.result (omega (arith, m.0)) c.constant.ensures.moves c.then-2.ensures) c.row_node.ensures
