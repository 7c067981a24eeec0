use Rattle.query_laws.proofs.Kept.{more-progress, no-progress}
use Rattle.query_laws.proofs.search_laws.broken_instances_keep_progress.Goals as goal

pub returns-clause-none : goal.returns-clause-none
returns-clause-none c = no-progress

pub returns-clause-more : goal.returns-clause-more
returns-clause-more c = more-progress
