use Rattle.std.proofs.Common.{◌≡◌, drop, map, option_map}
use Rattle.cocoon_num.specs.Lists.{each}
use Rattle.p4_ir.specs.NetOf.{link_of}
use Rattle.net_bundle.specs.NetForm.{link_fits}
use Rattle.net_bundle.proofs.net_rules.all_joined.Given as goal

abbrev pub invariant-loop-link : goal.invariant-loop-link
invariant-loop-link l =
    each (link_fits l.ports (option_map (λ list. list.items) l.fn.switches) (option_map (λ list. list.items) l.fn.hosts)) (map link_of (drop l.link-index l.links))
    ≡ each (link_fits l.ports (option_map (λ list. list.items) l.fn.switches) (option_map (λ list. list.items) l.fn.hosts)) (map link_of l.links)
