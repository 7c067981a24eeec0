use Rattle.std.proofs.Common.{ap, length, map, sym, ◌∙◌, ◌++◌}
use Rattle.std.proofs.lemmas.List.{length-map}
use Rattle.net_run.specs.Delivering.{delivery_of}
use Rattle.packet_runs.specs.Growing.{outcome_of}
use Rattle.packet_runs.specs.Reports.{delivery_lines}
use Rattle.packet_runs.proofs.Reporting.{one_outcome}
use Rattle.packet_runs.proofs.lines.push_outcome.Goals as goal

pub returns : goal.returns
returns c =
    one_outcome c.args.report.now.items c.extend_from_slice.new.self.items c.push_deliveries.new.report.items _ c.args.number _ (outcome_of c.args.outcome.now)
    (sym (length-map c.items-delivered.result.now delivery_of) ∙ ap (λ ds. length (map delivery_of ds)) c.items-delivered.ensures)
    (c.as_bytes.ensures.value ∙ c.in_ok-write_outcome.ensures) c.in_ok-extend_from_slice.ensures.items
    (c.in_ok-push_deliveries.ensures ∙ ap (λ ds. c.extend_from_slice.new.self.items ++ delivery_lines (map delivery_of ds)) c.items-delivered.ensures)
