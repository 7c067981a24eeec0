use Rattle.p4_texts.proofs.BackWhole.{kinds_of, program_back}
use Rattle.p4_texts.proofs.program_laws.program_stands.Goals as goal

pub returns : goal.returns
returns c = λ p h. program_back p (kinds_of p h)
