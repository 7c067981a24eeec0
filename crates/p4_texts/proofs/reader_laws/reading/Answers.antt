use Rattle.p4_texts.proofs.WholeTexts.{the_reading}
use Rattle.p4_texts.proofs.reader_laws.reading.Goals as goal

pub returns : goal.returns
returns c = the_reading
