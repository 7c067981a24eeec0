use Rattle.std.proofs.Common.{◌≡◌, drop, map, option_map}
use Rattle.cocoon_num.specs.Lists.{each}
use Rattle.p4_ir.specs.NetOf.{host_port_of}
use Rattle.net_bundle.specs.NetForm.{host_fits}
use Rattle.net_bundle.proofs.net_rules.all_attached.Given as goal

abbrev pub invariant-loop-host : goal.invariant-loop-host
invariant-loop-host l =
    each (host_fits l.ports (option_map (λ list. list.items) l.fn.switches)) (map host_port_of (drop l.host-index l.hosts))
    ≡ each (host_fits l.ports (option_map (λ list. list.items) l.fn.switches)) (map host_port_of l.hosts)
