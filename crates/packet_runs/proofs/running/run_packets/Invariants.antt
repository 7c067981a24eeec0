use Rattle.std.proofs.Common.{◌≡◌, drop, map, take}
use Rattle.net_run.specs.Nets.{net_in}
use Rattle.p4_ir.specs.Wiring.{host_numbers}
use Rattle.packet_runs.specs.Judging.{packet_in}
use Rattle.packet_runs.specs.Packets.{AllKnown}
use Rattle.net_run.specs.Stations.{StationsFit}
use Rattle.packet_runs.specs.Reports.{IsReport}
use Rattle.packet_runs.specs.Stopping.{AllWithin, SomeOver}
use Rattle.packet_runs.proofs.running.run_packets.Given as goal

abbrev pub invariant-loop-packet : goal.invariant-loop-packet
invariant-loop-packet l = record {
  fit : StationsFit l.net l.stations;
  number : l.number ≡ l.packet-index;
  report : IsReport (net_in l.net) l.hops (map packet_in (take l.packet-index l.packets)) l.report.items;
  known : AllKnown (host_numbers (net_in l.net).hosts) (map packet_in (drop l.packet-index l.packets));
  within : AllWithin (net_in l.net) l.hops (map packet_in (drop l.packet-index l.packets)) → AllWithin (net_in l.net) l.hops (map packet_in l.packets);
  over : SomeOver (net_in l.net) l.hops (map packet_in (drop l.packet-index l.packets)) → SomeOver (net_in l.net) l.hops (map packet_in l.packets);
}
