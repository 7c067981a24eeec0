use Rattle.std.proofs.Common.{length, arith}
use Rattle.std.proofs.lemmas.List.{length-map}
use Rattle.cocoon_num.specs.Tree.{HeaderDecl}
use Rattle.cocoon_syntax.specs.TreeOf.{header_of, param_of}
use Rattle.cocoon_resolve.proofs.Steps.{sum_step}
use Rattle.cocoon_resolve.proofs.counts.field_count.Goals as goal

pub loop-header-preserved : goal.loop-header-preserved
loop-header-preserved c = sum_step (λ (h : HeaderDecl). length h.fields) header_of c.args.headers.now c.loop-header.header-index c.header-item.result _ _ _ c.loop-header-test.true c.header-item.is c.loop-header.invariant (omega (arith, c.len.ensures, c.header-item.result.fields.ok.0, length-map c.header-item.result.fields.items param_of)) c.saturating_add-count.ensures
