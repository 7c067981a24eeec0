use Rattle.std.proofs.Common.{ap, ◌∙◌, codes, map}
use Rattle.serde_json.specs.Data.{object, member, no_members, put}
use Rattle.serde_json.specs.View.{members_view}
use Rattle.json_forms.proofs.JsonObjects.{object_of}
use Rattle.cnf_core.specs.CertsOf.{instance_of, log_of}
use Rattle.cert_text.specs.LogsJson.{instances_data, log_data}
use Rattle.cert_text.proofs.json_writing.CertToJsonCertJson.to_json.Goals as goal

pub returns : goal.returns
returns c =
    let instances = instances_data (map instance_of c.items.result.now) in
    let log = log_data (log_of c.args.self.now.log) in
    object_of c.with-object-2.result c.in_ok-object.field-0 (member (codes "instances") instances (member (codes "log") log no_members)) c.in_ok-object.was
    (c.with-object-2.ensures (put (codes "instances") instances no_members) log (c.with-object.ensures no_members instances (ap members_view c.new.ensures.empty) c.array-instances.ensures) c.to_json-log.ensures)
    ∙ ap (λ is. object (member (codes "instances") (instances_data (map instance_of is)) (member (codes "log") log no_members))) c.items.ensures
