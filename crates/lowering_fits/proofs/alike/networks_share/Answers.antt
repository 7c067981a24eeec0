use Rattle.lowering_fits.proofs.Merging.{one_program}
use Rattle.lowering_fits.proofs.Wide.{role_wide}
use Rattle.lowering_fits.proofs.alike.networks_share.Goals as goal

pub returns : goal.returns
returns c text d reads w parts is = one_program parts.role (role_wide d (c.readings_are_plain.ensures.literals text d reads) w parts is)
