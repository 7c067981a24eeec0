use Rattle.std.proofs.Common.{ap, ap₂, ◌∙◌, codes, map}
use Rattle.serde_json.specs.Data.{object, member, no_members, put}
use Rattle.serde_json.specs.View.{members_view}
use Rattle.p4_ir.specs.NetOf.{group_of, table_rows_of}
use Rattle.json_forms.specs.Values.{array_data}
use Rattle.json_forms.proofs.JsonObjects.{object_of}
use Rattle.net_bundle.specs.NetJson.{group_data, table_data}
use Rattle.net_bundle.proofs.rows_json.rows_value.Goals as goal

pub returns : goal.returns
returns c =
    let groups = array_data group_data (map group_of c.items.result.now) in
    let tables = array_data table_data (map table_rows_of c.items-2.result.now) in
    object_of c.with-object-2.result c.in_ok-object.field-0 (member (codes "groups") groups (member (codes "tables") tables no_members)) c.in_ok-object.was
    (c.with-object-2.ensures (put (codes "groups") groups no_members) tables (c.with-object.ensures no_members groups (ap members_view c.new.ensures.empty) c.array-groups.ensures) c.array-tables.ensures)
    ∙ ap₂ (λ gs ts. object (member (codes "groups") (array_data group_data (map group_of gs)) (member (codes "tables") (array_data table_data (map table_rows_of ts)) no_members))) c.items.ensures c.items-2.ensures
