use Rattle.std.proofs.Common.{◌≤◌, map, rules, ◌∙◌, arith}
use Rattle.std.proofs.lemmas.Result.{IfOk-weaker}
use Rattle.cocoon_syntax.specs.TreeOf.{design_of, expr_of, exprs_of}
use Rattle.expr_terms.specs.Sizes.{exprs_nodes, most_nodes}
use Rattle.expr_terms.proofs.Whole.{counted, whole_can_all, whole_terms}
use Rattle.expr_terms.proofs.exprs.expr_terms.Goals as goal

pub make_all-requires-clause-seen : goal.make_all-requires-clause-seen
make_all-requires-clause-seen c = c.whole.ensures.seen

pub make_all-requires-clause-typed : goal.make_all-requires-clause-typed
make_all-requires-clause-typed c = whole_can_all (design_of c.args.checked.now) c.whole.result c.args.terms.now c.args.variables.now c.args.fields.now (exprs_of (map expr_of c.args.exprs.now)) c.whole.ensures c.requires.typed

pub returns-clause-there : goal.returns-clause-there
returns-clause-there c = IfOk-weaker c.make_all.result _ _ (λ id m. m.there) c.make_all.ensures.made

pub returns-clause-terms : goal.returns-clause-terms
returns-clause-terms c =
    IfOk-weaker c.make_all.result _ _ (λ id m. m.terms ∙ whole_terms (design_of c.args.checked.now) c.whole.result c.args.terms.now c.args.variables.now c.args.fields.now (exprs_of (map expr_of c.args.exprs.now)) c.whole.ensures)
    c.make_all.ensures.made

pub returns-clause-small : goal.returns-clause-small
returns-clause-small c =
    let few : exprs_nodes (design_of c.args.checked.now) (exprs_of (map expr_of c.args.exprs.now)) ≤ most_nodes = counted (exprs_nodes (design_of c.args.checked.now) (exprs_of (map expr_of c.args.exprs.now))) c.all_nodes.result c.all_nodes.ensures (search rules) in
    search rules

pub returns-clause-unmade : goal.returns-clause-unmade
returns-clause-unmade c = λ l.
    let few : exprs_nodes (design_of c.args.checked.now) (exprs_of (map expr_of c.args.exprs.now)) ≤ most_nodes = counted (exprs_nodes (design_of c.args.checked.now) (exprs_of (map expr_of c.args.exprs.now))) c.all_nodes.result c.all_nodes.ensures (search rules) in
    absurd (omega (arith, l, few))

pub returns-clause-kept : goal.returns-clause-kept
returns-clause-kept c = c.make_all.ensures.kept.kept

pub returns-clause-inputs : goal.returns-clause-inputs
returns-clause-inputs c = c.make_all.ensures.kept.inputs
