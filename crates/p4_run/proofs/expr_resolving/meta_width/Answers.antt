use Rattle.std.proofs.Common.{◌≡◌, ◌<◌, ◌≤◌, length, map, sym, subst, arith}
use Rattle.packed_fields.proofs.Steps.{width_is}
use Rattle.p4_ir.specs.P4Tree.{field_widths}
use Rattle.p4_ir.specs.Program.{field_of}
use Rattle.p4_run.specs.Resolving.{program_at}
use Rattle.p4_run.proofs.ResolvingFacts.{meta_read, meta_there}
use Rattle.p4_run.proofs.WidthFacts.{wide_at, widths_counted, widths_of}
use Rattle.p4_run.proofs.expr_resolving.meta_width.Goals as goal

pub returns-clause-wide : goal.returns-clause-wide
returns-clause-wide c =
    let p = program_at c.args.names.now in
    let fs = c.args.names.now.program.now.meta in
    let l : c.args.index < length fs = meta_there fs c.args.index c.requires.sort in
    let many : length (field_widths (map field_of fs)) ≡ length fs = widths_counted fs in
    subst (λ w. 1 ≤ w) (sym (meta_read fs c.items.result.now c.args.index c.index-items-index.result c.items.ensures l))
    (wide_at (field_widths p.meta) c.args.index (widths_of p c.requires.names.widths).meta (omega (arith, l, many)))

pub returns-clause-narrow : goal.returns-clause-narrow
returns-clause-narrow c =
    let p = program_at c.args.names.now in
    let fs = c.args.names.now.program.now.meta in
    let l : c.args.index < length fs = meta_there fs c.args.index c.requires.sort in
    let many : length (field_widths (map field_of fs)) ≡ length fs = widths_counted fs in
    subst (λ w. w ≤ 64) (sym (meta_read fs c.items.result.now c.args.index c.index-items-index.result c.items.ensures l))
    (width_is (field_widths p.meta) c.args.index (widths_of p c.requires.names.widths).meta (omega (arith, l, many)))

pub returns-clause-width : goal.returns-clause-width
returns-clause-width c =
    let fs = c.args.names.now.program.now.meta in
    let l : c.args.index < length fs = meta_there fs c.args.index c.requires.sort in
    meta_read fs c.items.result.now c.args.index c.index-items-index.result c.items.ensures l
