use Rattle.std.proofs.Common.{◌≡◌, ◌<◌, length, ap, ◌∙◌, arith}
use Rattle.p4_ir.specs.P4Tree.{program_layout}
use Rattle.p4_run.specs.Resolving.{program_at}
use Rattle.p4_run.proofs.HeaderParts.{starts_count}
use Rattle.p4_run.proofs.ResolvingFacts.{header_there}
use Rattle.p4_run.proofs.WidthFacts.{headers_counted}
use Rattle.p4_run.proofs.expr_resolving.field_place.Goals as goal

pub bounds-names-header : goal.bounds-names-header
bounds-names-header c =
    let hs = c.args.names.now.program.now.headers in
    let l : c.args.header < length hs = header_there hs c.args.header c.args.field c.requires.sort in
    let many : length c.args.names.now.starts.now ≡ length hs =
    ap length c.requires.names.starts ∙ starts_count 0 (program_layout (program_at c.args.names.now)) ∙ headers_counted hs in
    omega (arith, l, many)
