use Rattle.std.proofs.Common.{◌∙◌, ap, ap₂}
use Rattle.p4_ir.specs.P4Kinds as rules
use Rattle.p4_ir.specs.P4Tree as tree
use Rattle.p4_resolve.proofs.TreeFacts.{field_expr}
use Rattle.p4_texts.specs.Meant as meant
use Rattle.p4_resolve.proofs.exprs.field.Goals as goal

pub returns : goal.returns
returns c = λ t d k.
    let h = meant.header_at t c.args.header.now in
    let f = meant.field_at t h c.args.field.now in
    let hs = c.header-header.ensures t d k in
    let fs = c.field-field.ensures t d k ∙ ap (λ n. meant.field_at t n c.args.field.now) hs in
    c.with_sort.ensures d (tree.p_field h f) (field_expr c.header-header.result c.field-field.result ∙ ap₂ tree.p_field hs fs) (c.field_sort.ensures t d k ∙ ap₂ (rules.field_sort d.program) hs fs)
