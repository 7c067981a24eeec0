use Rattle.parsing.proofs.WholeTexts.{designs_reading}
use Rattle.parsing.proofs.text_laws.designs.Goals as goal

pub returns : goal.returns
returns c = designs_reading
