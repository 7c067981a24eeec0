use Rattle.std.proofs.Common.{◌≡◌, map, Some, None, rules, sym, ap, ◌∙◌}
use Rattle.cocoon_syntax.specs.TreeOf.{block_of, design_of, role_of, stmt_of}
use Rattle.cocoon_types.specs.Design.{role_at}
use Rattle.symbolic_runs.proofs.FromPlaces.{no_body, no_role, not_sent}
use Rattle.symbolic_runs.proofs.bodies.body_at.Goals as goal

pub returns-in_default-clause-none : goal.returns-in_default-clause-none
returns-in_default-clause-none c = λ e. not_sent c.args.world.now c.args.sent.now (search rules)

pub returns-in_default-role_at-clause-none : goal.returns-in_default-role_at-clause-none
returns-in_default-role_at-clause-none c = λ e.
    let w = c.args.world.now in
    let none : role_at w.level (design_of w.checked.now) c.in-Some.place.role.now ≡ None = search rules in
    no_role w c.args.sent.now c.in-Some.place c.in-Some.is none

pub returns-in_default-body-clause-none : goal.returns-in_default-body-clause-none
returns-in_default-body-clause-none c = λ e.
    let w = c.args.world.now in
    let r = role_of c.in-Some-role_at.role.now in
    let is : role_at w.level (design_of w.checked.now) c.in-Some.place.role.now ≡ Some r = search rules in
    let none : r.body ≡ None = search rules in
    no_body w c.args.sent.now c.in-Some.place r c.in-Some.is is none

pub returns-clause-found : goal.returns-clause-found
returns-clause-found c =
    let w = c.args.world.now in
    let r = role_of c.in-Some-role_at.role.now in
    let is : role_at w.level (design_of w.checked.now) c.in-Some.place.role.now ≡ Some r = search rules in
    record { place = c.in-Some.place; is = c.in-Some.is; declared = is; body = search rules }
