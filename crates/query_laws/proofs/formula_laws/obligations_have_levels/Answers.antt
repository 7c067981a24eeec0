use Rattle.query_laws.proofs.FormulasOver.{obligation_level}
use Rattle.query_laws.proofs.formula_laws.obligations_have_levels.Goals as goal

pub returns : goal.returns
returns c = obligation_level
