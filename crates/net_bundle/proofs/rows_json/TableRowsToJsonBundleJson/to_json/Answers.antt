use Rattle.std.proofs.Common.{ap, ◌∙◌, codes, map}
use Rattle.serde_json.specs.Data.{object, member, no_members, put}
use Rattle.serde_json.specs.View.{members_view}
use Rattle.p4_ir.specs.NetOf.{key_row_of}
use Rattle.json_forms.specs.Values.{array_data, number_data}
use Rattle.json_forms.proofs.JsonObjects.{object_of}
use Rattle.net_bundle.specs.NetJson.{row_data}
use Rattle.net_bundle.proofs.rows_json.TableRowsToJsonBundleJson.to_json.Goals as goal

pub returns : goal.returns
returns c =
    let default = number_data c.args.self.now.default in
    let rows = array_data row_data (map key_row_of c.items.result.now) in
    let table = number_data c.args.self.now.number in
    object_of c.with-object-3.result c.in_ok-object.field-0 (member (codes "default") default (member (codes "rows") rows (member (codes "table") table no_members))) c.in_ok-object.was
    (c.with-object-3.ensures (put (codes "rows") rows (put (codes "default") default no_members)) table
    (c.with-object-2.ensures (put (codes "default") default no_members) rows (c.with-object.ensures no_members default (ap members_view c.new.ensures.empty) c.from.ensures) c.array-rows.ensures) c.from-2.ensures)
    ∙ ap (λ rs. object (member (codes "default") default (member (codes "rows") (array_data row_data (map key_row_of rs)) (member (codes "table") table no_members)))) c.items.ensures
