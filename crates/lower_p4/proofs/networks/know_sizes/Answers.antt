use Rattle.lower_p4.proofs.Grounded.{all_held}
use Rattle.lower_p4.proofs.networks.know_sizes.Goals as goal

pub returns : goal.returns
returns c = all_held c.args.net.now.switches c.know_meta.ensures c.args.net.now.switches.numbers
