use Rattle.std.proofs.Common.{rules}
use Rattle.cocoon_syntax.specs.TreeOf.{design_of}
use Rattle.lower_net.specs.NetDeclarations.{parts_of}
use Rattle.lowering_correct.specs.Network.{HasNumbers}
use Rattle.lower_net.specs.Wired.{HasWires}
use Rattle.p4_ir.specs.NetOf.{net_of}
use Rattle.std.proofs.lemmas.Result.{IfOk-weaker}
use Rattle.lower_net.proofs.Wiring.{has_wires}
use Rattle.lower_net.proofs.wired.wires_of_parts.Goals as goal

pub returns : goal.returns
returns c =
    let d = design_of c.args.checked.now in
    let numbers : HasNumbers d c.args.defs.now c.switches-numbers.result.now c.hosts-hosts.result.now = search rules in
    IfOk-weaker c.make_wires.result _ (λ wires. HasWires d c.args.defs.now (net_of wires))
    (λ wires is. has_wires d c.args.defs.now (parts_of d c.args.parts.now) c.switches-numbers.result.now c.hosts-hosts.result.now (net_of wires) c.requires.parts numbers is) c.make_wires.ensures
