use Rattle.std.proofs.Common.{◌≡◌, true, ◌∙◌}
use Rattle.cocoon_syntax.specs.TreeOf.{design_of, expr_of, name_of}
use Rattle.cocoon_types.specs.Design.{field_width}
use Rattle.type_rules.specs.Typed.{scope_of}
use Rattle.type_rules.proofs.StmtParts.{set_in}
use Rattle.type_rules.proofs.plain.note_set_and_value.Goals as goal

pub returns : goal.returns
returns c = λ w.
    let d = design_of c.args.design.now in
    let s = scope_of w d c.args.vars.now true in
    let h = name_of c.args.header.now in
    let f = name_of c.args.field.now in
    let x = expr_of c.args.value.now in
    let width : c.field_width-width.result ≡ field_width d.headers h.text f.text =
    c.field_width-width.ensures ∙ (λ i. field_width d.headers (c.bytes.ensures i) (c.bytes-2.ensures i)) in
    set_in c.noting_laws.ensures s c.args.ended c.args.at h f x (c.note_expr-value.ensures.noted w)
    (c.note_set_field.ensures s h f x width (c.note_expr-value.ensures.typed w))
