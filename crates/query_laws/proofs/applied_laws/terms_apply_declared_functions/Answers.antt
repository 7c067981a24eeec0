use Rattle.query_laws.proofs.Applied.{terms_are_over}
use Rattle.query_laws.proofs.applied_laws.terms_apply_declared_functions.Goals as goal

pub returns : goal.returns
returns c = terms_are_over
