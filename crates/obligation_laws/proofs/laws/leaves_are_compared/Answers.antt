use Rattle.std.proofs.Common.{refl}
use Rattle.obligation_laws.proofs.laws.leaves_are_compared.Goals as goal

pub returns : goal.returns
returns c = record { two = λ c v f. refl; none = λ c v f. refl; inside = λ c v f. refl }
