use Rattle.std.proofs.Common.{ap, ◌∙◌}
use Rattle.net_run.specs.Delivering.{delivery_of}
use Rattle.packet_runs.specs.Reports.{bytes_text}
use Rattle.packet_runs.proofs.Reporting.{one_delivery}
use Rattle.packet_runs.proofs.lines.push_delivery.Goals as goal

pub returns : goal.returns
returns c =
    one_delivery c.args.report.now.items c.extend_from_slice.new.self.items c.push_bytes.new.report.items c.push.new.self.items _ _ (delivery_of c.args.delivery.now)
    (c.as_bytes.ensures.value ∙ c.in_ok-write_front.ensures) (ap bytes_text c.bytes.ensures) c.in_ok-extend_from_slice.ensures.items c.in_ok-push_bytes.ensures c.in_ok-push.ensures.items
