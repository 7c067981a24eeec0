use Rattle.std.proofs.Common.{ap, ap₂, ◌∙◌, codes}
use Rattle.serde_json.specs.Data.{array, object, member, no_members, put}
use Rattle.serde_json.specs.View.{members_view}
use Rattle.json_forms.specs.Values.{number_data}
use Rattle.json_forms.proofs.JsonObjects.{object_of}
use Rattle.net_bundle.specs.NetJson.{key_data}
use Rattle.net_bundle.proofs.rows_json.KeyRowToJsonBundleJson.to_json.Goals as goal

pub returns : goal.returns
returns c =
    let value = number_data c.args.self.now.result in
    let key = array (key_data c.items.result.now c.items-2.result.now) in
    object_of c.with-object-2.result c.in_ok-object.field-0 (member (codes "key") key (member (codes "value") value no_members)) c.in_ok-object.was
    (c.with-object-2.ensures (put (codes "key") key no_members) value (c.with-object.ensures no_members key (ap members_view c.new.ensures.empty) c.key_value-key.ensures) c.from.ensures)
    ∙ ap₂ (λ vs ms. object (member (codes "key") (array (key_data vs ms)) (member (codes "value") value no_members))) c.items.ensures c.items-2.ensures
