use Rattle.cocoon_cli.proofs.Generated.{generated_of}
use Rattle.cocoon_cli.proofs.laws.generated_packets_are_counted.Goals as goal

pub returns : goal.returns
returns c = generated_of c.one_tree.ensures c.one_definitions_tree.ensures
