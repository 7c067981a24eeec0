use Rattle.generator.specs.Arriving.{Arrives}
use Rattle.generator.proofs.Counts.{one}
use Rattle.generator.proofs.laws.one_count.Goals as goal

pub returns : goal.returns
returns c = λ net hosts packets m n h k. one (Arrives net hosts) packets m n h k
