use Rattle.std.proofs.Common.{arith, length, map, ◌≤◌}
use Rattle.net_run.specs.Nets.{net_in}
use Rattle.p4_ir.specs.Wiring.{host_numbers}
use Rattle.packet_runs.specs.Judging.{packet_in}
use Rattle.packet_runs.proofs.Known.{known_at_end}
use Rattle.packet_runs.proofs.packet_lines.read_packets.Goals as goal

pub returns-clause-known : goal.returns-clause-known
returns-clause-known c =
    let items = c.deref-line-items.result.now in
    let past : length items ≤ c.loop-line.line-index = search arith in
    known_at_end (host_numbers (net_in c.args.net.now).hosts) items c.loop-line.line-index (map packet_in c.loop-line.packets.items) past c.loop-line.invariant
