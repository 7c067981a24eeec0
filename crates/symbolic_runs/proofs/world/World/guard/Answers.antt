use Rattle.std.proofs.Common.{◌≡◌, List, [], map, Some, None, rules, sym, ap, subst, ◌∙◌}
use Rattle.cocoon_syntax.specs.TreeOf.{design_of, expr_of, param_of, role_of}
use Rattle.cocoon_types.specs.Design.{role_at}
use Rattle.obligation_laws.specs.TermOf.{bind_terms, term_context, term_of}
use Rattle.expr_terms.specs.Scopes.{IsTyped}
use Rattle.expr_terms.specs.Variables.{terms_at, variables_of}
use Rattle.obligation_laws.specs.States.{guard_term}
use Rattle.symbolic_runs.specs.Reading.{world_in}
use Rattle.symbolic_runs.proofs.Stepping.{guard_is, guard_typed, made_ok}
use Rattle.symbolic_runs.proofs.world.World.guard.Goals as goal

pub returns-in_default-clause-made : goal.returns-in_default-clause-made
returns-in_default-clause-made c =
    let w = c.args.self.now in
    let none : role_at w.level (design_of w.checked.now) c.args.role.now ≡ None = search rules in
    let no = sym none ∙ c.requires.can.fits.declared in
    absurd (cc)

pub expr_term-requires-clause-sizes : goal.expr_term-requires-clause-sizes
expr_term-requires-clause-sizes c = c.requires.ready.sizes

pub expr_term-requires-clause-typed : goal.expr_term-requires-clause-typed
expr_term-requires-clause-typed c =
    let w = c.args.self.now in
    let a = c.args.terms.now in
    let ids = c.args.values.now in
    let r = role_of c.in-Some.role.now in
    let is : role_at w.level (design_of w.checked.now) c.args.role.now ≡ Some r = search rules in
    let vars = c.in_ok-bound.bound.items in
    let reads : variables_of a vars ≡ bind_terms r.params (terms_at a ids) = c.in_ok-bound.ensures.bound a ∙ ap (λ ps. bind_terms (map param_of ps) (terms_at a ids)) c.deref.ensures.value in
    subst (λ vs. IsTyped (design_of w.checked.now) a vs [] r.guard) (sym c.deref-2.ensures.value)
    (guard_typed w c.requires.ready a c.args.role.now ids r vars c.requires.can is reads (c.in_ok-bound.ensures.there a c.requires.can.there))

pub returns-clause-made : goal.returns-clause-made
returns-clause-made c =
    let w = c.args.self.now in
    let a = c.args.terms.now in
    let b = c.expr_term.new.terms in
    let ids = c.args.values.now in
    let r = role_of c.in-Some.role.now in
    let is : role_at w.level (design_of w.checked.now) c.args.role.now ≡ Some r = search rules in
    let vars = c.in_ok-bound.bound.items in
    let reads : variables_of a vars ≡ bind_terms r.params (terms_at a ids) = c.in_ok-bound.ensures.bound a ∙ ap (λ ps. bind_terms (map param_of ps) (terms_at a ids)) c.deref.ensures.value in
    made_ok c.expr_term.result b (guard_term (world_in w) (record { role = c.args.role.now; values = terms_at a ids })) _ c.expr_term.ensures.there c.expr_term.ensures.term
    (ap (λ vs. term_of (term_context (design_of w.checked.now)) (variables_of a vs) [] r.guard) c.deref-2.ensures.value
    ∙ ap (λ vs. term_of (term_context (design_of w.checked.now)) vs [] r.guard) reads ∙ sym (guard_is w c.args.role.now (terms_at a ids) r is))
