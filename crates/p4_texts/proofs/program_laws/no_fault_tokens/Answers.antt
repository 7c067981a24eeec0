use Rattle.p4_texts.proofs.SaidWhole.{text_said}
use Rattle.p4_texts.proofs.program_laws.no_fault_tokens.Goals as goal

pub returns : goal.returns
returns c = text_said
