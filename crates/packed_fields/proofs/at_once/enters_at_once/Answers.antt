use Rattle.packed_fields.proofs.Headers.{enter_flat}
use Rattle.packed_fields.proofs.at_once.enters_at_once.Goals as goal

pub returns : goal.returns
returns c = enter_flat
