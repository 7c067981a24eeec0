use Rattle.query_laws.proofs.Agreeing.{rows-agree}
use Rattle.query_laws.proofs.applied_laws.tables_keep_values.Goals as goal

pub returns : goal.returns
returns c = λ d tables defs z s ins t i h others. rows-agree d tables z others defs s ins t i h
