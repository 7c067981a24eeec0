use Rattle.std.proofs.Common.{◌≡◌, ◌*◌, ◌/◌, ◌%◌, ◌≤◌, Some, take, drop, length, rules, sym, ap, ◌∙◌, arith}
use Rattle.cocoon_num.specs.Lists.{each}
use Rattle.cocoon_num.specs.PacketForms.{AreBytes}
use Rattle.cocoon_num.specs.Packets.{header_fields, total}
use Rattle.cocoon_num.specs.Sorts.{is_declared_width}
use Rattle.cocoon_resolve.specs.Readers.{all_widths, field_widths}
use Rattle.cocoon_syntax.specs.TreeOf.{design_of}
use Rattle.cocoon_types.specs.Design.{layout}
use Rattle.role_values.specs.Flat.{packet_of}
use Rattle.role_meaning.proofs.Layouts.{are_bytes, each_declared, entered_long, entered_short, whole_total}
use Rattle.role_meaning.proofs.bytes.enter.Goals as goal

pub returns-then-bytes-count-clause-enters : goal.returns-then-bytes-count-clause-enters
returns-then-bytes-count-clause-enters c =
    let d = design_of c.args.checked.now in
    let bytes = c.args.bytes.now in
    let all : AreBytes bytes = are_bytes bytes (λ k. omega (arith, c.type_inv.bytes k)) in
    sym (c.enters_at_once.ensures (layout d) bytes (c.headers_are_whole.ensures d c.design.ensures.resolves) all
    ∙ entered_short d.headers bytes c.header_bytes-count.result c.header_bytes-count.ensures (search rules))

pub cut_fields-requires-clause-declared : goal.cut_fields-requires-clause-declared
cut_fields-requires-clause-declared c =
    let d = design_of c.args.checked.now in
    ap (each is_declared_width) c.field_widths.ensures ∙ each_declared (field_widths d) (c.fields_are_declared.ensures d c.design.ensures.resolves)

pub cut_fields-requires-clause-long : goal.cut_fields-requires-clause-long
cut_fields-requires-clause-long c =
    let d = design_of c.args.checked.now in
    let whole : total (field_widths d) % 8 ≡ 0 = whole_total d.headers (c.headers_are_whole.ensures d c.design.ensures.resolves) in
    let count : c.header_bytes-count.result ≡ total (field_widths d) / 8 = c.header_bytes-count.ensures in
    let many : length c.split_at.result.0.now ≡ c.header_bytes-count.result = search rules in
    ap total c.field_widths.ensures ∙ (let e : total (field_widths d) ≡ 8 * length c.split_at.result.0.now = omega (arith, whole, count, many) in e)

pub returns-clause-enters : goal.returns-clause-enters
returns-clause-enters c =
    let d = design_of c.args.checked.now in
    let bytes = c.args.bytes.now in
    let n = c.header_bytes-count.result in
    let all : AreBytes bytes = are_bytes bytes (λ k. omega (arith, c.type_inv.bytes k)) in
    let count : n ≡ total (field_widths d) / 8 = c.header_bytes-count.ensures in
    let long : n ≤ length bytes = search rules in
    let fields : c.from.result ≡ header_fields (all_widths d.headers) (take n bytes) =
    c.from.ensures ∙ c.in_ok-fields.ensures.fields ∙ (λ i. header_fields (c.field_widths.ensures i) (c.split_at.ensures.front i)) in
    sym (c.enters_at_once.ensures (layout d) bytes (c.headers_are_whole.ensures d c.design.ensures.resolves) all
    ∙ entered_long d.headers bytes n count long
    ∙ (λ i. Some (packet_of d.headers (sym fields i), drop (count i) bytes)))
