use Rattle.lowering_correct.proofs.Delivered.{delivers}
use Rattle.lowering_correct.proofs.networks.networks_deliver.Goals as goal

pub returns : goal.returns
returns c = delivers c.enter_undoes_leave.ensures c.runs_are_taken.ensures c.runs_by_tables.ensures.guards c.runs_by_tables.ensures.runs c.starts_fit.ensures.packets
