use Rattle.std.proofs.Common.{rules, ◌≡◌, ◌<◌, ◌+◌, [], ◌∷◌, ap, drop, length, map, refl}
use Rattle.net_run.specs.Nets.{net_in}
use Rattle.p4_ir.specs.Wiring.{host_numbers}
use Rattle.packet_runs.specs.Judging.{packet_in}
use Rattle.packet_runs.proofs.Reporting.{known_more, opened, over_more, report_more, within_more}
use Rattle.packet_runs.proofs.running.run_packets.Goals as goal

pub loop-packet-init : goal.loop-packet-init
loop-packet-init c = record {
  fit = c.new-stations.ensures c.args.net.now;
  number = refl;
  report = record { outcomes = []; are = tt; lines = c.new-report.ensures.items };
  known = c.requires.known;
  within = λ h. h;
  over = λ h. h;
}

pub loop-packet-preserved : goal.loop-packet-preserved
loop-packet-preserved c =
    let ps = c.args.packets.now in
    let i = c.loop-packet.packet-index in
    let net = net_in c.args.net.now in
    let hops = c.args.hops in
    let p = packet_in c.packet-item.result in
    let before : i < length ps = search rules in
    let first : map packet_in (drop i ps) ≡ p ∷ map packet_in (drop (i + 1) ps) = opened ps i c.packet-item.result _ before c.packet-item.is in record {
      fit = c.in_ok-stations.ensures.fit;
      number = ap (λ n. n + 1) c.loop-packet.invariant.number;
      report = report_more net hops c.loop-packet.number i ps c.packet-item.result _ c.loop-packet.report.items c.push_packet.new.report.items before c.loop-packet.invariant.number c.packet-item.is
          c.loop-packet.invariant.report c.in_ok-stations.ensures.lines;
      known = known_more (host_numbers net.hosts) p _ _ first c.loop-packet.invariant.known;
      within = λ h. c.loop-packet.invariant.within (within_more net hops p _ _ first c.in_ok-stations.ensures.within h);
      over = λ h. c.loop-packet.invariant.over (over_more net hops p _ _ first h);
    }
