use Rattle.std.proofs.Common.{◌≡◌, drop, map}
use Rattle.net_run.specs.Nets.{net_in}
use Rattle.p4_ir.specs.Wiring.{host_numbers}
use Rattle.packet_runs.specs.Judging.{joined, packet_in}
use Rattle.packet_runs.specs.Packets.{all_judged}
use Rattle.text_lines.specs.LineOf.{line_of}
use Rattle.packet_runs.proofs.packet_lines.read_packets.Given as goal

abbrev pub invariant-loop-line : goal.invariant-loop-line
invariant-loop-line l =
    joined (map packet_in l.packets.items) (all_judged (host_numbers (net_in l.net).hosts) (map line_of (drop l.line-index l.line-items)))
    ≡ all_judged (host_numbers (net_in l.net).hosts) (map line_of l.line-items)
