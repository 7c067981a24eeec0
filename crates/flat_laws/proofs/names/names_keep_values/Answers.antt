use Rattle.flat_laws.proofs.RenamedTerms.{value-renamed}
use Rattle.flat_laws.proofs.names.names_keep_values.Goals as goal

pub returns : goal.returns
returns c = λ t name F ins. value-renamed name F ins t
