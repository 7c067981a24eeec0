use Rattle.std.proofs.Common.{◌≡◌, map, take}
use Rattle.cocoon_syntax.specs.TreeOf.{design_of, host_of, switch_of}
use Rattle.lowering_correct.specs.Wires.{host_port}
use Rattle.p4_ir.specs.NetOf.{host_port_of}
use Rattle.lower_net.proofs.hosts.host_ports.Given as goal

abbrev pub invariant-loop-host : goal.invariant-loop-host
invariant-loop-host l =
    map host_port_of l.ports.items ≡ map (host_port (design_of l.checked) l.defs (switch_of l.switches) (host_of l.hosts)) (take l.host-index l.numbers)
