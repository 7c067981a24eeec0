use Rattle.query_laws.proofs.OverParts.{applies-alike, mentioned-is, over-others}
use Rattle.query_laws.proofs.over.design_terms_apply_alike.Goals as goal

pub returns-clause-alike : goal.returns-clause-alike
returns-clause-alike c = applies-alike

pub returns-clause-inputs : goal.returns-clause-inputs
returns-clause-inputs c = mentioned-is

pub returns-clause-others : goal.returns-clause-others
returns-clause-others c = over-others
