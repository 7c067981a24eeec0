use Rattle.std.proofs.Common.{◌≡◌, ◌<◌, ◌+◌, ◌-◌, ◌++◌, map, rules, sym, ap, ◌∙◌, arith}
use Rattle.std.specs.Prelude.{flat_map}
use Rattle.std.proofs.lemmas.List.{append_assoc}
use Rattle.cocoon_syntax.specs.TreeOf.{design_of, host_of, switch_of}
use Rattle.lowering_correct.specs.Network.{numbers_from}
use Rattle.lowering_correct.specs.Wires.{port_link}
use Rattle.p4_ir.specs.NetOf.{link_of}
use Rattle.lower_net.proofs.Ranging.{numbers_step}
use Rattle.lower_net.proofs.links.push_links.Goals as goal

pub loop-port-preserved : goal.loop-port-preserved
loop-port-preserved c =
    let n = c.args.switches.now.ports in
    let k = c.loop-port.port in
    let f = port_link (design_of c.args.checked.now) c.args.defs.now (switch_of c.args.switches.now) (host_of c.args.hosts.now) c.args.switch in
    let old = map link_of c.loop-port.links.items in
    let rest = flat_map f (numbers_from (k + 1) (n - (k + 1))) in
    let less : k < n = c.loop-port-test.true in
    record {
      within = omega arith;
      rest = ap (λ xs. xs ++ rest) c.in_ok-push_link.ensures ∙ append_assoc old (f k) rest ∙ ap (λ xs. old ++ xs) (sym (numbers_step f k n less)) ∙ c.loop-port.invariant.rest;
    }
