use Rattle.flat_laws.proofs.RenamedClauses.{clauses-renamed, input-renamed, vars-renamed}
use Rattle.flat_laws.proofs.names.names_keep_the_clauses.Goals as goal

pub returns : goal.returns
returns c = record { clauses = clauses-renamed; vars = vars-renamed; bits = input-renamed }
