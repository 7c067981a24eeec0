use Rattle.packed_fields.proofs.Headers.{leave_flat}
use Rattle.packed_fields.proofs.at_once.leaves_at_once.Goals as goal

pub returns : goal.returns
returns c = leave_flat
