use Rattle.parsing.proofs.Ends.{lexed_lasts}
use Rattle.parsing.proofs.text_laws.tokens_end.Goals as goal

pub returns : goal.returns
returns c = lexed_lasts
