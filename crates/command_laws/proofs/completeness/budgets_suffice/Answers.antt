use Rattle.command_laws.proofs.Ending.{by_conflicts_alone, by_none, by_rounds_alone}
use Rattle.command_laws.proofs.completeness.budgets_suffice.Goals as goal

pub returns-clause-conflicts : goal.returns-clause-conflicts
returns-clause-conflicts c = by_rounds_alone (record {
  logs = c.licensed_logs_are_short.ensures;
  progress = c.progress_is_short.ensures;
  first = c.earlier_levels_come_first.ensures;
}) c.calls_keep_more.ensures

pub returns-clause-rounds : goal.returns-clause-rounds
returns-clause-rounds c = by_conflicts_alone (record {
  logs = c.licensed_logs_are_short.ensures;
  progress = c.progress_is_short.ensures;
  first = c.earlier_levels_come_first.ensures;
}) c.calls_keep_more.ensures

pub returns-clause-both : goal.returns-clause-both
returns-clause-both c = by_none (record {
  logs = c.licensed_logs_are_short.ensures;
  progress = c.progress_is_short.ensures;
  first = c.earlier_levels_come_first.ensures;
}) c.calls_keep_more.ensures
