use Rattle.p4_texts.proofs.Words.{text_words}
use Rattle.p4_texts.proofs.program_laws.pieces_are_the_text.Goals as goal

pub returns : goal.returns
returns c = text_words
