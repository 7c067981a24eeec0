use Rattle.std.proofs.Common.{refl}
use Rattle.obligation_laws.proofs.laws.choices_are_read_back.Goals as goal

pub returns : goal.returns
returns c = record { value = λ r a b c f. refl; field = λ r a f g. refl; nowhere = λ r a f. refl }
