use Rattle.std.proofs.Common.{◌≤◌, rules, ◌∙◌, arith}
use Rattle.std.proofs.lemmas.Result.{IfOk-weaker}
use Rattle.cocoon_syntax.specs.TreeOf.{design_of, expr_of}
use Rattle.expr_terms.specs.Sizes.{expr_nodes, most_nodes}
use Rattle.expr_terms.proofs.Whole.{counted, whole_can, whole_term}
use Rattle.expr_terms.proofs.exprs.expr_term.Goals as goal

pub make-requires-clause-seen : goal.make-requires-clause-seen
make-requires-clause-seen c = c.whole.ensures.seen

pub make-requires-clause-typed : goal.make-requires-clause-typed
make-requires-clause-typed c = whole_can (design_of c.args.checked.now) c.whole.result c.args.terms.now c.args.variables.now c.args.fields.now (expr_of c.args.expr.now) c.whole.ensures c.requires.typed

pub returns-clause-there : goal.returns-clause-there
returns-clause-there c = IfOk-weaker c.make.result _ _ (λ id m. m.there) c.make.ensures.made

pub returns-clause-term : goal.returns-clause-term
returns-clause-term c =
    IfOk-weaker c.make.result _ _ (λ id m. m.term ∙ whole_term (design_of c.args.checked.now) c.whole.result c.args.terms.now c.args.variables.now c.args.fields.now (expr_of c.args.expr.now) c.whole.ensures)
    c.make.ensures.made

pub returns-clause-small : goal.returns-clause-small
returns-clause-small c =
    let few : expr_nodes (design_of c.args.checked.now) (expr_of c.args.expr.now) ≤ most_nodes = counted (expr_nodes (design_of c.args.checked.now) (expr_of c.args.expr.now)) c.nodes.result c.nodes.ensures (search rules) in
    search rules

pub returns-clause-unmade : goal.returns-clause-unmade
returns-clause-unmade c = λ l.
    let few : expr_nodes (design_of c.args.checked.now) (expr_of c.args.expr.now) ≤ most_nodes = counted (expr_nodes (design_of c.args.checked.now) (expr_of c.args.expr.now)) c.nodes.result c.nodes.ensures (search rules) in
    absurd (omega (arith, l, few))

pub returns-clause-kept : goal.returns-clause-kept
returns-clause-kept c = c.make.ensures.kept.kept

pub returns-clause-inputs : goal.returns-clause-inputs
returns-clause-inputs c = c.make.ensures.kept.inputs
