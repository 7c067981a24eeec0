use Rattle.std.proofs.Common.{◌≡◌, [], map, sym, ap, subst, ◌∙◌}
use Rattle.cocoon_syntax.specs.TreeOf.{assume_of, design_of, param_of}
use Rattle.cocoon_types.specs.Design.{last_level}
use Rattle.obligation_laws.specs.TermOf.{bind_terms}
use Rattle.expr_terms.specs.Scopes.{IsTyped}
use Rattle.expr_terms.specs.Variables.{terms_at, variables_of}
use Rattle.fun_instances.proofs.Assumed.{body_typed}
use Rattle.fun_instances.proofs.assumptions.assumption_term.Goals as goal

pub expr_term-requires-clause-typed : goal.expr_term-requires-clause-typed
expr_term-requires-clause-typed c =
    let d = design_of c.args.checked.now in
    let a = assume_of c.assumption-assumed.result.now in
    let n = c.args.terms.now in
    let args = c.args.args.now in
    let vars = c.in_ok-bound.bound.items in
    let typed = c.declarations_are_typed.ensures.assumptions d c.design-design.ensures.resolves.rules (c.code_literals_fit.ensures.designs c.args.checked.now) (last_level d) c.args.assumption a c.assumption-assumed.ensures in
    let takes = c.requires.takes a c.assumption-assumed.ensures in
    let is : variables_of n vars ≡ bind_terms a.params (terms_at n args) = c.in_ok-bound.ensures.bound n ∙ ap (λ ps. bind_terms (map param_of ps) (terms_at n args)) c.deref.ensures.value in
    subst (λ vs. IsTyped d n vs [] a.body) (sym c.deref-2.ensures.value) (body_typed d a typed n args takes vars is (c.in_ok-bound.ensures.there n takes.there))
