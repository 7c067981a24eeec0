use Rattle.std.proofs.Common.{◌≡◌, Some, rules}
use Rattle.cocoon_syntax.specs.TreeOf.{design_of, role_of}
use Rattle.cocoon_types.specs.Design.{role_at}
use Rattle.design_tests.proofs.Found.{has_role}
use Rattle.design_tests.proofs.places.role_there.Goals as goal

pub returns : goal.returns
returns c =
    let d = design_of c.args.checked.now in
    let there : role_at c.args.level d c.args.name.now ≡ Some (role_of c.in_ok-role_at.field-0.now) = search rules in
    has_role d c.args.level c.args.name.now (role_of c.in_ok-role_at.field-0.now) c.role_of.result c.role_of.ensures there
