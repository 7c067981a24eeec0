use Rattle.cert_text.proofs.LogsApart.{logs_apart, all_instances_apart}
use Rattle.cert_text.proofs.json_laws.values_are_of_one.Goals as goal

pub returns-clause-log : goal.returns-clause-log
returns-clause-log c = logs_apart

pub returns-clause-instances : goal.returns-clause-instances
returns-clause-instances c = all_instances_apart
