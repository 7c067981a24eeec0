use Rattle.std.proofs.Common.{refl, ap, ◌∙◌, codes, map}
use Rattle.std.proofs.lemmas.List.{map-id}
use Rattle.serde_json.specs.Data.{Members, no_members, put, string}
use Rattle.serde_json.specs.View.{members_view}
use Rattle.json_forms.specs.Values.{array_data, number_data}
use Rattle.json_forms.proofs.JsonObjects.{object_of}
use Rattle.net_bundle.specs.NetJson.{digest_data, host_data, link_data}
use Rattle.p4_ir.specs.NetOf.{host_port_of, link_of}
use Rattle.net_bundle.specs.NetFileOf.{kept_of}
use Rattle.net_bundle.proofs.NetValue.{seven_same}
use Rattle.net_bundle.proofs.net_json.net_value.Goals as goal

pub returns : goal.returns
returns c =
    let design = string c.deref.result.now in
    let files = array_data digest_data (map kept_of c.deref-2.result.now) in
    let hosts = array_data host_data (map host_port_of c.deref-3.result.now) in
    let links = array_data link_data (map link_of c.deref-4.result.now) in
    let switches = array_data number_data (map (λ n. n) c.deref-5.result.now) in
    let one : Members = put (codes "cocoon") (number_data 1) no_members in
    let two : Members = put (codes "design") design one in
    let three : Members = put (codes "files") files two in
    let four : Members = put (codes "hosts") hosts three in
    let five : Members = put (codes "links") links four in
    let six : Members = put (codes "ports") (number_data c.args.file.now.ports) five in
    object_of c.with-object-7.result c.in_ok-object.field-0 (put (codes "switches") switches six) c.in_ok-object.was
    (c.with-object-7.ensures six switches
    (c.with-object-6.ensures five (number_data c.args.file.now.ports)
    (c.with-object-5.ensures four links
    (c.with-object-4.ensures three hosts
    (c.with-object-3.ensures two files
    (c.with-object-2.ensures one design
    (c.with-object.ensures no_members (number_data 1) (ap members_view c.new.ensures.empty) c.from.ensures)
    c.text-design.ensures)
    c.array-files.ensures)
    c.array-hosts.ensures)
    c.array-links.ensures)
    c.from-2.ensures)
    c.array-switches.ensures)
    ∙ seven_same _ _ _ _ _ _ _ _ _ _ _ _ _ _ refl (ap string c.deref.ensures)
    (ap (λ xs. array_data digest_data (map kept_of xs)) c.deref-2.ensures.value)
    (ap (λ xs. array_data host_data (map host_port_of xs)) c.deref-3.ensures.value)
    (ap (λ xs. array_data link_data (map link_of xs)) c.deref-4.ensures.value)
    refl
    (ap (array_data number_data) (map-id c.deref-5.result.now ∙ c.deref-5.ensures.value))
