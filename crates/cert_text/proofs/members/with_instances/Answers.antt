use Rattle.std.proofs.Common.{map}
use Rattle.cnf_core.specs.CertsOf.{instance_of}
use Rattle.cert_text.specs.LogsJson.{instances_data}
use Rattle.cert_text.proofs.members.with_instances.Goals as goal

pub returns : goal.returns
returns c = λ members is. c.with.ensures members (instances_data (map instance_of c.args.instances.now)) is c.array-values.ensures
