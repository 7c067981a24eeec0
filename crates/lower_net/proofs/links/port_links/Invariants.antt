use Rattle.std.proofs.Common.{◌≡◌, map, take}
use Rattle.std.specs.Prelude.{flat_map}
use Rattle.cocoon_syntax.specs.TreeOf.{design_of, host_of, switch_of}
use Rattle.lowering_correct.specs.Network.{numbers_from}
use Rattle.lowering_correct.specs.Wires.{port_link}
use Rattle.p4_ir.specs.NetOf.{link_of}
use Rattle.lower_net.proofs.links.port_links.Given as goal

abbrev pub invariant-loop-switch : goal.invariant-loop-switch
invariant-loop-switch l =
    map link_of l.links.items
    ≡ flat_map (λ s. flat_map (port_link (design_of l.checked) l.defs (switch_of l.switches) (host_of l.hosts) s) (numbers_from 0 l.switches.ports)) (take l.switch-index l.numbers)
