use Rattle.p4_texts.proofs.Fits.{rules_kept, text_kept}
use Rattle.p4_texts.proofs.program_laws.no_fault_fits.Goals as goal

pub returns : goal.returns
returns c = λ t e. rules_kept t (text_kept t e)
