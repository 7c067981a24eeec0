use Rattle.cocoon_types.proofs.Appended as appended
use Rattle.cocoon_types.proofs.noting.among_laws.Goals as goal

pub returns : goal.returns
returns c = appended.among_laws c.noting_laws.ensures
