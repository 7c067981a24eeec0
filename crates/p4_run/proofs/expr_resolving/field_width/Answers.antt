use Rattle.std.proofs.Common.{◌≡◌, Some, get_or, ap, ◌∙◌}
use Rattle.cocoon_num.specs.Sorts.{bits_sort}
use Rattle.p4_ir.specs.P4Kinds.{field_sort}
use Rattle.p4_ir.specs.declared.program.P4Header.{P4Header as CodeHeader}
use Rattle.p4_run.specs.Resolving.{program_at}
use Rattle.p4_run.proofs.ResolvingFacts.{declared_field, sort_of_code}
use Rattle.p4_run.proofs.expr_resolving.field_width.Goals as goal

pub returns-clause-wide : goal.returns-clause-wide
returns-clause-wide c =
    let hs = c.args.names.now.program.now.headers in
    let w = (get_or c.items-2.result.now c.args.field c.index-items-field.result).width in
    let e : field_sort (program_at c.args.names.now) c.args.header c.args.field ≡ Some (bits_sort w) =
    sort_of_code hs c.items.result.now c.items-2.result.now c.args.header c.args.field c.index-items-header.result c.index-items-field.result
    c.items.ensures (c.items-2.ensures ∙ ap (λ (y : CodeHeader). y.fields) c.index-items-header.is) c.requires.sort in
    (declared_field (program_at c.args.names.now) c.args.header c.args.field w c.requires.names.widths e).0

pub returns-clause-narrow : goal.returns-clause-narrow
returns-clause-narrow c =
    let hs = c.args.names.now.program.now.headers in
    let w = (get_or c.items-2.result.now c.args.field c.index-items-field.result).width in
    let e : field_sort (program_at c.args.names.now) c.args.header c.args.field ≡ Some (bits_sort w) =
    sort_of_code hs c.items.result.now c.items-2.result.now c.args.header c.args.field c.index-items-header.result c.index-items-field.result
    c.items.ensures (c.items-2.ensures ∙ ap (λ (y : CodeHeader). y.fields) c.index-items-header.is) c.requires.sort in
    (declared_field (program_at c.args.names.now) c.args.header c.args.field w c.requires.names.widths e).1

pub returns-clause-width : goal.returns-clause-width
returns-clause-width c =
    let hs = c.args.names.now.program.now.headers in
    sort_of_code hs c.items.result.now c.items-2.result.now c.args.header c.args.field c.index-items-header.result c.index-items-field.result
    c.items.ensures (c.items-2.ensures ∙ ap (λ (y : CodeHeader). y.fields) c.index-items-header.is) c.requires.sort
