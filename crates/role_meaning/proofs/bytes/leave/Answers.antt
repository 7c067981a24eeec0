use Rattle.std.proofs.Common.{◌≡◌, ◌%◌, ◌++◌, sym, ap, subst, ◌∙◌}
use Rattle.cocoon_num.specs.Lists.{each}
use Rattle.cocoon_num.specs.PacketForms.{FieldsFit}
use Rattle.cocoon_num.specs.Packets.{header_bytes, total}
use Rattle.cocoon_num.specs.Sorts.{is_declared_width}
use Rattle.cocoon_resolve.specs.Readers.{all_widths, field_widths}
use Rattle.cocoon_syntax.specs.TreeOf.{design_of}
use Rattle.cocoon_types.specs.Design.{layout}
use Rattle.packed_fields.specs.AtOnce.{widths_in}
use Rattle.role_meaning.proofs.Layouts.{each_declared, left_is, whole_total, widths_same}
use Rattle.role_meaning.proofs.bytes.leave.Goals as goal

pub join_fields-requires-clause-declared : goal.join_fields-requires-clause-declared
join_fields-requires-clause-declared c =
    let d = design_of c.args.checked.now in
    ap (each is_declared_width) c.field_widths.ensures ∙ each_declared (field_widths d) (c.fields_are_declared.ensures d c.design.ensures.resolves)

pub join_fields-requires-clause-whole : goal.join_fields-requires-clause-whole
join_fields-requires-clause-whole c =
    let d = design_of c.args.checked.now in
    ap (λ ws. total ws % 8) c.field_widths.ensures ∙ whole_total d.headers (c.headers_are_whole.ensures d c.design.ensures.resolves)

pub returns : goal.returns
returns c =
    let d = design_of c.args.checked.now in
    let fields = c.args.packet.now.fields in
    let payload = c.args.payload.now in
    let fit : FieldsFit (widths_in (layout d)) fields = subst (λ ws. FieldsFit ws fields) (sym (widths_same d.headers)) c.requires in
    let law = left_is d.headers fields payload (c.leaves_at_once.ensures (layout d) fields payload (c.headers_are_whole.ensures d c.design.ensures.resolves) fit) in
    let made : c.in_ok-bytes.bytes.items ≡ header_bytes (all_widths d.headers) fields = c.in_ok-bytes.ensures ∙ (λ i. header_bytes (c.field_widths.ensures i) (c.items.ensures i)) in
    c.in_ok-extend_from_slice.ensures.items ∙ ap (λ xs. xs ++ payload) made ∙ sym law
