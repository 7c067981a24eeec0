-- The certificates of the definitions that values of the code stand for. Cited by the clauses of what reads and writes
-- certificates.
use Rattle.std.specs.Prelude.{List, map}
use Rattle.cnf_core.specs.Clauses.{literals}
use Rattle.cnf_core.specs.declared.log.Log.{Log}
use Rattle.cnf_core.specs.declared.log.Step.{Step}
use Rattle.cnf_core.specs.Certificates as tree
use Rattle.cnf_core.specs.declared.certificates.Cert.{Cert}
use Rattle.cnf_core.specs.declared.certificates.Certs.{Certs}
use Rattle.cnf_core.specs.declared.certificates.Instance.{Instance}

abbrev pub step_of : Step → tree.Step
step_of s = record { clause = literals s.clause; hints = s.hints }

abbrev pub log_of : Log → List tree.Step
log_of l = map step_of l.steps

abbrev pub instance_of : Instance → tree.Instance
instance_of i = record { number = i.number; values = i.values }

abbrev pub cert_of : Cert → tree.Cert
cert_of c = record { instances = map instance_of c.instances; log = log_of c.log }

abbrev pub certs_of : Certs → List tree.Cert
certs_of c = map cert_of c.certs
