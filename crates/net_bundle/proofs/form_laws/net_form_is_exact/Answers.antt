use Rattle.net_bundle.proofs.NetExact.{net_is_exact}
use Rattle.net_bundle.proofs.form_laws.net_form_is_exact.Goals as goal

pub returns : goal.returns
returns c = net_is_exact
