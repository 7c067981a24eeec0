use Rattle.std.proofs.Common.{◌≡◌, Some, rules, sym}
use Rattle.cocoon_syntax.specs.TreeOf.{design_of}
use Rattle.lower_net.specs.NetDeclarations.{parts_of}
use Rattle.lowering.specs.Roles.{net_parts}
use Rattle.lower_net.proofs.Few.{few-ports}
use Rattle.lower_net.proofs.wired.wires.Goals as goal

pub wires_of_parts-requires : goal.wires_of_parts-requires
wires_of_parts-requires c =
    let d = design_of c.args.checked.now in
    let found : Some (parts_of d c.unwrap-parts.result) ≡ net_parts d = search rules in
    record {
      fits = c.requires;
      parts = sym found;
      ports = few-ports d c.design.ensures.resolves.limits (parts_of d c.unwrap-parts.result) (sym found);
    }
