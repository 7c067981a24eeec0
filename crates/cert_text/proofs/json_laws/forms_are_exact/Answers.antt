use Rattle.cert_text.proofs.LogsExact.{log_is_exact, instances_is_exact}
use Rattle.cert_text.proofs.json_laws.forms_are_exact.Goals as goal

pub returns-clause-log : goal.returns-clause-log
returns-clause-log c = log_is_exact

pub returns-clause-instances : goal.returns-clause-instances
returns-clause-instances c = instances_is_exact
