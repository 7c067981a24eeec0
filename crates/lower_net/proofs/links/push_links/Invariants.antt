use Rattle.std.proofs.Common.{◌≡◌, ◌≤◌, ◌-◌, ◌++◌, map}
use Rattle.std.specs.Prelude.{flat_map}
use Rattle.cocoon_syntax.specs.TreeOf.{design_of, host_of, switch_of}
use Rattle.lowering_correct.specs.Network.{numbers_from}
use Rattle.lowering_correct.specs.Wires.{port_link}
use Rattle.p4_ir.specs.NetOf.{link_of}
use Rattle.lower_net.proofs.links.push_links.Given as goal

abbrev pub invariant-loop-port : goal.invariant-loop-port
invariant-loop-port l = record {
  within : l.port ≤ l.switches.ports;
  rest : map link_of l.links.items ++ flat_map (port_link (design_of l.checked) l.defs (switch_of l.switches) (host_of l.hosts) l.switch) (numbers_from l.port (l.switches.ports - l.port))
      ≡ map link_of l.fn.links.items ++ flat_map (port_link (design_of l.checked) l.defs (switch_of l.switches) (host_of l.hosts) l.switch) (numbers_from 0 l.switches.ports);
}
