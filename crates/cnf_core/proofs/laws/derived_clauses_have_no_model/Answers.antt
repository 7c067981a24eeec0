use Rattle.cnf_core.proofs.Models.{no-model}
use Rattle.cnf_core.proofs.laws.derived_clauses_have_no_model.Goals as goal

pub returns : goal.returns
returns c = λ cnf log a named derives sat. no-model a cnf log named derives sat
