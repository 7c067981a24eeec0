use Rattle.cocoon_types.proofs.NotesLaws as laws
use Rattle.cocoon_types.proofs.first_faults.noting_laws.Goals as goal

pub returns : goal.returns
returns c = laws.noting_laws
