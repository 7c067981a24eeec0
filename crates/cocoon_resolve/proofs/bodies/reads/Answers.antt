use Rattle.std.proofs.Common.{◌==◌, length, map, sym, ap, ◌∙◌}
use Rattle.cocoon_syntax.specs.TreeOf.{block_of, design_of, header_of, stmt_of}
use Rattle.cocoon_types.specs.ReadBack.{hidden_in}
use Rattle.cocoon_resolve.proofs.Rows.{none-hidden, not-some, reads-body}
use Rattle.cocoon_resolve.proofs.bodies.reads.Goals as goal

pub returns-in_ok-first_hidden-in-Some : goal.returns-in_ok-first_hidden-in-Some
returns-in_ok-first_hidden-in-Some c =
    not-some c.in_ok-first_hidden-in-Some.field-0 c.is_none.result c.is_none.ensures
    ∙ none-hidden c.in_ok-first_hidden-in-Some.field-0 (hidden_in (design_of c.args.design.now) (block_of (map stmt_of c.deref-in-Some.result.now)))
    (c.in_ok-first_hidden-in-Some.ensures (design_of c.args.design.now) (ap (map header_of) (sym c.deref.ensures.value)))
    ∙ ap (λ items. length (hidden_in (design_of c.args.design.now) (block_of (map stmt_of items))) == 0) c.deref-in-Some.ensures.value
    ∙ reads-body (design_of c.args.design.now) c.args.role.now c.in-Some.body c.in-Some.is
