use Rattle.packet_runs.proofs.OneReport.{same_report}
use Rattle.packet_runs.proofs.laws.one_report.Goals as goal

pub returns : goal.returns
returns c = same_report c.one_delivered.ensures c.one_travelling.ensures
