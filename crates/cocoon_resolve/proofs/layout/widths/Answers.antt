use Rattle.std.proofs.Common.{map, sym, ap, subst, ◌∙◌, ◌++◌}
use Rattle.cocoon_syntax.specs.TreeOf.{header_of, param_of}
use Rattle.cocoon_types.specs.Design.{widths_of}
use Rattle.cocoon_resolve.specs.Kept.{AreDeclared}
use Rattle.cocoon_resolve.proofs.Widths.{declared-in, widths-more}
use Rattle.cocoon_resolve.proofs.layout.widths.Goals as goal

pub append_fields-requires : goal.append_fields-requires
append_fields-requires c = subst (λ ps. AreDeclared (widths_of (map param_of ps))) (sym c.deref.ensures.value)
    (declared-in header_of c.args.headers.now c.loop-header.header-index c.header-item.result c.requires c.loop-header-test.true c.header-item.is)

pub loop-header-preserved : goal.loop-header-preserved
loop-header-preserved c =
    c.in_ok-append_fields.ensures ∙ ap (λ ps. c.loop-header.widths.items ++ widths_of (map param_of ps)) c.deref.ensures.value
    ∙ ap (λ ws. ws ++ widths_of (header_of c.header-item.result).fields) c.loop-header.invariant
    ∙ sym (widths-more header_of c.args.headers.now c.loop-header.header-index c.header-item.result c.loop-header-test.true c.header-item.is)
