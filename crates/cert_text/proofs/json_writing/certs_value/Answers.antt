use Rattle.std.proofs.Common.{ap, ◌∙◌, codes, map}
use Rattle.serde_json.specs.Data.{object, member, no_members, put}
use Rattle.serde_json.specs.View.{members_view}
use Rattle.json_forms.specs.Values.{array_data, number_data}
use Rattle.json_forms.proofs.JsonObjects.{object_of}
use Rattle.cnf_core.specs.CertsOf.{cert_of}
use Rattle.cert_text.specs.CertsJson.{cert_data}
use Rattle.cert_text.proofs.json_writing.certs_value.Goals as goal

pub returns : goal.returns
returns c =
    let certs = array_data cert_data (map cert_of c.items.result.now) in
    let one = number_data 1 in
    object_of c.with-object-2.result c.in_ok-object.field-0 (member (codes "certs") certs (member (codes "cocoon") one no_members)) c.in_ok-object.was
    (c.with-object-2.ensures (put (codes "certs") certs no_members) one (c.with-object.ensures no_members certs (ap members_view c.new.ensures.empty) c.array-values.ensures) c.from.ensures)
    ∙ ap (λ cs. object (member (codes "certs") (array_data cert_data (map cert_of cs)) (member (codes "cocoon") one no_members))) c.items.ensures
