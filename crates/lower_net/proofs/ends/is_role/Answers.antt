use Rattle.std.proofs.Common.{◌≡◌, ◌==◌, false, Some, None, sym}
use Rattle.cocoon_syntax.specs.TreeOf.{design_of}
use Rattle.declarations.specs.Declares.{role_number}
use Rattle.lower_net.proofs.Leading.{role_same, same_number}
use Rattle.lower_net.proofs.ends.is_role.Goals as goal

pub returns-in-Some : goal.returns-in-Some
returns-in-Some c =
    let d = design_of c.args.checked.now in
    let there : role_number d c.args.name.now ≡ Some c.in-Some.number = sym c.in-Some.ensures in
    role_same d c.requires.name c.args.name.now c.args.role c.requires.number (c.in-Some.number == c.args.role) (same_number (role_number d c.args.name.now) c.in-Some.number c.args.role there)

pub returns-in-None : goal.returns-in-None
returns-in-None c =
    let d = design_of c.args.checked.now in
    let none : role_number d c.args.name.now ≡ None = sym c.in-None.ensures in
    role_same d c.requires.name c.args.name.now c.args.role c.requires.number false (λ h. cc (h, none))
