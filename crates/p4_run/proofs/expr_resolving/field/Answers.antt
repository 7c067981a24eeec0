use Rattle.std.proofs.Common.{get_or, refl, ap, ◌∙◌}
use Rattle.p4_run.specs.Resolving.{program_at}
use Rattle.p4_run.proofs.CodeFacts.{by_field}
use Rattle.p4_run.proofs.ResolvingFacts.{means_field}
use Rattle.p4_run.proofs.expr_resolving.field.Goals as goal

pub returns : goal.returns
returns c =
    let names = c.args.names.now in
    means_field (program_at names) names.in_ingress names.starts.now c.args.header c.args.field c.field_width-width.result _ c.requires.names.widths c.requires.names.starts
    c.field_width-width.ensures.width refl (λ r. by_field c.in_ok-field_place.field-0 r ∙ ap (λ i. get_or r.fields i 0) c.in_ok-field_place.ensures)
