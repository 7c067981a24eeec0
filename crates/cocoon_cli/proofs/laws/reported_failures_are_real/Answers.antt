use Rattle.obligation_laws.specs.Obligations.{bounded, contained}
use Rattle.cocoon_cli.proofs.Failed.{failed_of}
use Rattle.cocoon_cli.proofs.laws.reported_failures_are_real.Goals as goal

pub returns-clause-refuted : goal.returns-clause-refuted
returns-clause-refuted c = failed_of c.one_tree.ensures contained

pub returns-clause-hop_bound : goal.returns-clause-hop_bound
returns-clause-hop_bound c = failed_of c.one_tree.ensures bounded
