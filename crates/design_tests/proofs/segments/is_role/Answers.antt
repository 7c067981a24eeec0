use Rattle.std.proofs.Common.{◌≡◌, Some, rules}
use Rattle.cocoon_syntax.specs.TreeOf.{design_of}
use Rattle.declarations.specs.Declares.{role_number}
use Rattle.design_tests.proofs.Found.{is_named}
use Rattle.design_tests.proofs.segments.is_role.Goals as goal

pub returns-in-Some : goal.returns-in-Some
returns-in-Some c = λ same.
    let d = design_of c.args.checked.now in
    let found : c.in-Some.found ≡ c.args.role = search rules in
    let number : role_number d c.args.name.now.text ≡ Some c.args.role = search rules in
    is_named d c.args.name.now.text c.args.role number
