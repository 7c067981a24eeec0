use Rattle.std.proofs.Common.{◌≡◌, List, [], Some, rules, refl, sym, subst}
use Rattle.bv_terms.specs.Arenas.{inputs_in}
use Rattle.expr_terms.specs.Variables.{Makes, terms_at}
use Rattle.obligation_laws.specs.States.{guard_term}
use Rattle.obligation_laws.specs.Leaves.{begins}
use Rattle.symbolic_runs.specs.Fitting.{CanEnter}
use Rattle.symbolic_runs.specs.Reading.{Reads, world_in}
use Rattle.symbolic_runs.specs.declared.states.Place.{Place}
use Rattle.symbolic_runs.specs.declared.states.State.{State}
use Rattle.symbolic_runs.proofs.FromPlaces.{begun, begun_stands}
use Rattle.symbolic_runs.proofs.bodies.begin.Goals as goal

pub guard-requires-clause-can : goal.guard-requires-clause-can
guard-requires-clause-can c = subst (CanEnter c.args.world.now c.args.terms.now c.args.role.now) (sym c.deref.ensures.value) c.requires.role

pub returns-clause-begins : goal.returns-clause-begins
returns-clause-begins c =
    let w = c.args.world.now in
    let a = c.args.terms.now in
    let b = c.guard.new.terms in
    let place : Place = record { role = c.args.role; values = c.args.values } in
    let made : State = record {
      variables = c.new-variables.result;
      fields = c.args.fields;
      condition = c.in_ok-condition.condition;
      choices = c.new-choices.result;
      way = c.new-way.result;
      sent = Some place;
    } in
    let guard : Makes b c.in_ok-condition.condition (guard_term (world_in w) (record { role = c.args.role.now; values = terms_at a c.args.values.items })) =
    subst (λ ids. Makes b c.in_ok-condition.condition (guard_term (world_in w) (record { role = c.args.role.now; values = terms_at a ids }))) c.deref.ensures.value c.in_ok-condition.ensures.made in
    (begun w a b made place c.args.role.now c.args.values.items c.args.fields.items c.guard.ensures.kept (search rules) (search rules) (search rules) refl c.requires.there refl refl refl c.requires.role.there guard).is

pub returns-clause-stands : goal.returns-clause-stands
returns-clause-stands c =
    let w = c.args.world.now in
    let a = c.args.terms.now in
    let b = c.guard.new.terms in
    let place : Place = record { role = c.args.role; values = c.args.values } in
    let made : State = record {
      variables = c.new-variables.result;
      fields = c.args.fields;
      condition = c.in_ok-condition.condition;
      choices = c.new-choices.result;
      way = c.new-way.result;
      sent = Some place;
    } in
    let guard : Makes b c.in_ok-condition.condition (guard_term (world_in w) (record { role = c.args.role.now; values = terms_at a c.args.values.items })) =
    subst (λ ids. Makes b c.in_ok-condition.condition (guard_term (world_in w) (record { role = c.args.role.now; values = terms_at a ids }))) c.deref.ensures.value c.in_ok-condition.ensures.made in
    begun_stands w c.know.ensures b made (record { role = c.args.role.now; values = terms_at a c.args.values.items }) (terms_at a c.args.fields.items)
    (begun w a b made place c.args.role.now c.args.values.items c.args.fields.items c.guard.ensures.kept (search rules) (search rules) (search rules) refl c.requires.there refl refl refl c.requires.role.there guard)
    c.requires.role.fits c.requires.widths
