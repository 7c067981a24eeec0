use Rattle.std.proofs.Common.{refl}
use Rattle.flat_laws.proofs.examples.nested_applications.Goals as goal

pub returns : goal.returns
returns c = refl
