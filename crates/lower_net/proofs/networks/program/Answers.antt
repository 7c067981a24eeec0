use Rattle.std.proofs.Common.{◌≡◌, Some, rules, ap, ◌∙◌}
use Rattle.cocoon_syntax.specs.TreeOf.{design_of}
use Rattle.lower_net.specs.NetDeclarations.{parts_of}
use Rattle.lowering.specs.Roles.{NetParts, net_parts}
use Rattle.lowering.specs.SwitchProgram.{switch_program}
use Rattle.lower_net.proofs.networks.program.Goals as goal

pub returns : goal.returns
returns c = λ parts are.
    let d = design_of c.args.checked.now in
    let found : Some (parts_of d c.unwrap-parts.result) ≡ net_parts d = search rules in
    let both : Some (parts_of d c.unwrap-parts.result) ≡ Some parts = found ∙ are in
    let is : parts_of d c.unwrap-parts.result ≡ parts = cc in
    c.in_ok-code.ensures.program ∙ ap (λ (p : NetParts). switch_program p.role c.args.number) is
