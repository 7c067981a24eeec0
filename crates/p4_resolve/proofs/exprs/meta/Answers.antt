use Rattle.std.proofs.Common.{◌∙◌, ap}
use Rattle.p4_ir.specs.P4Kinds as rules
use Rattle.p4_ir.specs.P4Tree as tree
use Rattle.p4_resolve.proofs.TreeFacts.{meta_expr}
use Rattle.p4_texts.specs.Meant as meant
use Rattle.p4_resolve.proofs.exprs.meta.Goals as goal

pub returns : goal.returns
returns c = λ t d k.
    let i = meant.meta_at t c.args.name.now in
    let is = c.meta-index.ensures t d k in
    c.with_sort.ensures d (tree.p_meta i) (meta_expr c.meta-index.result ∙ ap tree.p_meta is) (c.meta_sort.ensures t d k ∙ ap (rules.meta_sort d.program) is)
