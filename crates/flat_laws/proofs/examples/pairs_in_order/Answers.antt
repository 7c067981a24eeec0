use Rattle.std.proofs.Common.{refl}
use Rattle.flat_laws.proofs.examples.pairs_in_order.Goals as goal

pub returns : goal.returns
returns c = refl
