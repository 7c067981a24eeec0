use Rattle.std.proofs.Common.{◌≡◌, Some, rules, sym}
use Rattle.cocoon_syntax.specs.TreeOf.{design_of}
use Rattle.lower_net.specs.NetDeclarations.{parts_of}
use Rattle.lowering.specs.Roles.{net_parts}
use Rattle.lower_net.proofs.Few.{few-ports}
use Rattle.lower_net.proofs.networks.lower.Goals as goal

pub lower_parts-requires : goal.lower_parts-requires
lower_parts-requires c =
    let d = design_of c.args.checked.now in
    let found : Some (parts_of d c.unwrap-parts.result) ≡ net_parts d = search rules in
    record {
      fits = c.requires;
      parts = sym found;
      one = c.networks_share.ensures c.know_reading.ensures.read.0 d c.know_reading.ensures.read.1 c.design.ensures.resolves.rules (parts_of d c.unwrap-parts.result) (sym found);
      ports = few-ports d c.design.ensures.resolves.limits (parts_of d c.unwrap-parts.result) (sym found);
    }
