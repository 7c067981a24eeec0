use Rattle.std.proofs.Common.{◌≡◌, Some, rules, sym, ◌∙◌}
use Rattle.cocoon_syntax.specs.TreeOf.{design_of, role_of}
use Rattle.cocoon_types.specs.Design.{last_level, role_at}
use Rattle.lower_net.proofs.Leading.{never_none, some_declared}
use Rattle.lower_net.proofs.led.declared_role.Goals as goal

pub returns-clause-there : goal.returns-clause-there
returns-clause-there c =
    let d = design_of c.args.checked.now in
    let there : role_at (last_level d) d c.args.role.now ≡ Some (role_of c.in_ok-role_at.field-0.now) = search rules in
    some_declared d c.args.role.now (role_of c.in_ok-role_at.field-0.now) c.role_of.result c.role_of.ensures there

pub returns-clause-none : goal.returns-clause-none
returns-clause-none c = λ none.
    let d = design_of c.args.checked.now in
    let there : role_at (last_level d) d c.args.role.now ≡ Some (role_of c.in_ok-role_at.field-0.now) = search rules in
    never_none d c.args.role.now c.names.result.now c.names.ensures (role_of c.in_ok-role_at.field-0.now) there (sym c.role_of.ensures ∙ none)
