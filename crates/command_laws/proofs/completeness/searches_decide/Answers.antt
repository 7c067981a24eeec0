use Rattle.command_laws.proofs.Spending.{decided}
use Rattle.command_laws.proofs.completeness.searches_decide.Goals as goal

pub returns : goal.returns
returns c = decided (record {
  logs = c.licensed_logs_are_short.ensures;
  progress = c.progress_is_short.ensures;
  first = c.earlier_levels_come_first.ensures;
}) c.failing_obligations_fail.ensures.fails
