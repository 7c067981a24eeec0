use Rattle.p4_texts.proofs.Within.{faults_within}
use Rattle.p4_texts.proofs.program_laws.faults_are_tokens.Goals as goal

pub returns : goal.returns
returns c = faults_within
