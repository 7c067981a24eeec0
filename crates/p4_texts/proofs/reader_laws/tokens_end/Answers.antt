use Rattle.p4_texts.proofs.Ends.{lexed_lasts}
use Rattle.p4_texts.proofs.reader_laws.tokens_end.Goals as goal

pub returns : goal.returns
returns c = lexed_lasts
