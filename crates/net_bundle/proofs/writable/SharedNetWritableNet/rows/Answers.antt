use Rattle.net_bundle.proofs.Shared.{all_share}
use Rattle.net_bundle.proofs.writable.SharedNetWritableNet.rows.Goals as goal

pub returns : goal.returns
returns c = all_share c.args.self.now.switches c.args.self.now.switches.numbers _
