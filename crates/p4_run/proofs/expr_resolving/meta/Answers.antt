use Rattle.std.proofs.Common.{◌≡◌, ◌<◌, length, map, arith}
use Rattle.p4_ir.specs.P4Tree.{field_widths}
use Rattle.p4_ir.specs.Program.{field_of}
use Rattle.p4_run.specs.Resolving.{program_at}
use Rattle.p4_run.proofs.CodeFacts.{by_meta}
use Rattle.p4_run.proofs.ResolvingFacts.{means_meta, meta_there}
use Rattle.p4_run.proofs.WidthFacts.{widths_counted}
use Rattle.p4_run.proofs.expr_resolving.meta.Goals as goal

pub returns : goal.returns
returns c =
    let names = c.args.names.now in
    let fs = names.program.now.meta in
    let l : c.args.index < length fs = meta_there fs c.args.index c.requires.sort in
    let many : length (field_widths (map field_of fs)) ≡ length fs = widths_counted fs in
    means_meta (program_at names) names.in_ingress c.args.index _ c.requires.names.widths (omega (arith, l, many)) c.meta_width.ensures.width (by_meta c.args.index)
