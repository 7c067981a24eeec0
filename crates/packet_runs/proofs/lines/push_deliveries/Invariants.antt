use Rattle.std.proofs.Common.{◌≡◌, ◌++◌, drop, map}
use Rattle.net_run.specs.Delivering.{delivery_of}
use Rattle.packet_runs.specs.Reports.{delivery_lines}
use Rattle.packet_runs.proofs.lines.push_deliveries.Given as goal

abbrev pub invariant-loop-delivery : goal.invariant-loop-delivery
invariant-loop-delivery l =
    l.report.items ++ delivery_lines (map delivery_of (drop l.delivery-index l.deliveries)) ≡ l.fn.report.items ++ delivery_lines (map delivery_of l.deliveries)
