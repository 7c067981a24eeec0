use Rattle.std.proofs.Common.{◌≡◌, map, None, refl, sym, ap, subst, ◌∙◌}
use Rattle.cocoon_syntax.specs.TreeOf.{param_of, role_of}
use Rattle.obligation_laws.specs.TermOf.{bind_terms}
use Rattle.expr_terms.specs.Variables.{AreThere, terms_at}
use Rattle.symbolic_runs.specs.declared.states.State.{State}
use Rattle.symbolic_runs.proofs.FromPlaces.{entered_reads, values_there}
use Rattle.symbolic_runs.proofs.bodies.enter.Goals as goal

pub returns : goal.returns
returns c = λ a t at r to.
    let s = c.args.state.now in
    let made : State = record { variables = c.in_ok-state.field-0; fields = s.fields; condition = s.condition; choices = s.choices; way = s.way; sent = None } in
    entered_reads a s made t at (role_of c.args.role.now) r to
    (c.in_ok-state.ensures.bound a ∙ (λ j. bind_terms (map param_of (c.deref.ensures.value j)) (terms_at a (c.values.ensures j))))
    (c.in_ok-state.ensures.there a (subst (AreThere a) (sym c.values.ensures) (values_there a s.sent r.there.sent)))
    refl refl refl refl refl
