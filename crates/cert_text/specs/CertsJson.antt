-- The JSON value of a file of certificates, as the crate serde_json has it. The clauses of `to_json` cite it, and the laws on
-- what is read. It follows "Certificates" in docs/FORMATS.md.
use Rattle.std.specs.Prelude.{List, codes}
use Rattle.serde_json.specs.Data.{Data, object, member, no_members}
use Rattle.json_forms.specs.Values.{number_data, array_data}
use Rattle.cnf_core.specs.Certificates.{Cert}
use Rattle.cert_text.specs.LogsJson.{instances_data, log_data}

-- {"instances":[INSTANCE],"log":LOG}
abbrev pub cert_data : Cert → Data
cert_data c = object (member (codes "instances") (instances_data c.instances) (member (codes "log") (log_data c.log) no_members))

-- {"certs":[CERT],"cocoon":1}
abbrev pub certs_data : List Cert → Data
certs_data cs = object (member (codes "certs") (array_data cert_data cs) (member (codes "cocoon") (number_data 1) no_members))
