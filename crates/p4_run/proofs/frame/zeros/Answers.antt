use Rattle.std.proofs.Common.{◌≡◌, length, replicate, rules, sym, ◌∙◌, ap, subst}
use Rattle.cocoon_num.specs.PacketForms.{FieldsFit}
use Rattle.packed_fields.specs.AtOnce.{widths_in}
use Rattle.p4_ir.specs.P4Tree.{field_widths}
use Rattle.p4_run.specs.Running.{layout_in, program_in}
use Rattle.p4_run.proofs.WidthFacts.{zeros_fit}
use Rattle.p4_run.proofs.frame.zeros.Goals as goal

pub returns : goal.returns
returns c =
    let l = c.args.loaded.now in
    let ws = widths_in (layout_in l) in
    let ms = field_widths (program_in l).meta in
    let fields : c.len-fields.result ≡ length l.widths.items = search rules in
    let meta : c.len-meta.result ≡ length l.meta.items = search rules in
    record {
      fields = subst (FieldsFit ws) (sym (c.in_ok-made.ensures.fields ∙ ap (λ n. replicate n 0) (fields ∙ ap length l.widths_are))) (zeros_fit ws);
      meta = subst (FieldsFit ms) (sym (c.in_ok-made.ensures.meta ∙ ap (λ n. replicate n 0) (meta ∙ ap length l.meta_are))) (zeros_fit ms);
    }
