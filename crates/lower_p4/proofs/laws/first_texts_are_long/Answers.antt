use Rattle.lower_p4.proofs.LongFiles.{texts_are_long}
use Rattle.lower_p4.proofs.laws.first_texts_are_long.Goals as goal

pub returns : goal.returns
returns c = texts_are_long
