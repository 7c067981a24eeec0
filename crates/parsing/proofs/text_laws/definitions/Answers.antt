use Rattle.parsing.proofs.WholeTexts.{definitions_reading}
use Rattle.parsing.proofs.text_laws.definitions.Goals as goal

pub returns : goal.returns
returns c = definitions_reading
