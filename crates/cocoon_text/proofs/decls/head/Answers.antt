use Rattle.std.proofs.Common.{rules, arith, ◌+◌, map, refl}
use Rattle.cocoon_syntax.specs.TreeOf.{param_of}
use Rattle.parsing.specs.PlainParser.{after, marked, named, params_from}
use Rattle.cocoon_text.specs.ExprPhrases.{then_mark}
use Rattle.cocoon_text.specs.Phrases.{head_of}
use Rattle.cocoon_text.proofs.Eventually.{agrees_as, agrees_made, agrees_marked, moves_marked, moves_with_first, with_first_makes}
use Rattle.cocoon_text.specs.Kinds.{mark_text}
use Rattle.cocoon_syntax.specs.TreeOf.{name_of}
use Rattle.cocoon_text.proofs.decls.head.Goals as goal

pub returns-in_err-name-clause-agrees : goal.returns-in_err-name-clause-agrees
unfolding after marked named
returns-in_err-name-clause-agrees c = record { depth = 0; agrees = λ n h. let e0 = c.in_err-name.ensures.is in search rules }

pub returns-in_err-expect-clause-agrees : goal.returns-in_err-expect-clause-agrees
unfolding after marked named
returns-in_err-expect-clause-agrees c = record { depth = 0; agrees = λ n h. let e0 = c.in_ok-name.ensures.is in let e1 = c.in_err-expect.ensures.is in search rules }

pub returns-clause-agrees : goal.returns-clause-agrees
unfolding marked named
returns-clause-agrees c =
    let ts = c.args.source.now in
    agrees_as (λ n. rw (c.in_ok-name.ensures.is, c.in_ok-expect.ensures.is) refl)
    (agrees_made _ (λ v. map param_of v.items) head_of (λ ps. record { name = name_of c.in_ok-name.name; params = ps }) _ _
    (agrees_marked ts (mark_text c.args.last) (λ n. then_mark ts (mark_text c.args.right) (params_from ts n (c.args.pos + 2))) (λ v. map param_of v.items) _ _
    (agrees_marked ts (mark_text c.args.right) (λ n. params_from ts n (c.args.pos + 2)) (λ v. map param_of v.items) _ _ c.params.ensures.agrees c.then-params.ensures) c.then.ensures)
    (with_first_makes (λ v. map param_of v.items) head_of (λ ps. record { name = name_of c.in_ok-name.name; params = ps }) c.in_ok-name.name _ _ (λ y. refl) c.both.ensures))

pub returns-clause-moves : goal.returns-clause-moves
returns-clause-moves c =
    moves_with_first _ c.args.pos c.args.pos _ _ _ (omega arith)
    (moves_marked c.args.source.now (mark_text c.args.last) c.args.pos c.args.pos c.then-params.result _ (omega arith) (moves_marked c.args.source.now (mark_text c.args.right) c.args.pos (c.args.pos + 2) c.params.result _ (omega arith) c.params.ensures.moves c.then-params.ensures) c.then.ensures)
    c.both.ensures
