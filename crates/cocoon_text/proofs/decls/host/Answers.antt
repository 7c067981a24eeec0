use Rattle.std.proofs.Common.{rules, ◌≡◌, ◌+◌, slice_get, Err, codes}
use Rattle.cocoon_syntax.specs.TreeOf.{decl_of}
use Rattle.parsing.specs.PlainParser.{is_mark}
use Rattle.cocoon_text.proofs.Closings.{host_reads, host_pair_fails, host_end_fails}
use Rattle.cocoon_text.proofs.Eventually.{token_stops}
use Rattle.cocoon_text.proofs.decls.host.Goals as goal

pub returns-in_err-entry-clause-agrees : goal.returns-in_err-entry-clause-agrees
returns-in_err-entry-clause-agrees c =
    let e : c.from_residual.result ≡ Err c.in_err-entry.field-0.0 = search rules in
    host_pair_fails c.args.source.now c.args.pos c.in_err-entry.field-0.0 c.in_err-entry.ensures.is e

pub returns-in_err-expect-clause-agrees : goal.returns-in_err-expect-clause-agrees
returns-in_err-expect-clause-agrees c =
    let e : c.from_residual-in_err-expect.result ≡ Err c.in_err-expect.field-0.0 = search rules in
    token_stops decl_of (c.args.pos + 6) (is_mark (codes ";") (slice_get c.args.source.now (c.args.pos + 6))) c.in_err-expect.field-0.0 c.in_err-expect.ensures.is e (host_end_fails c.args.source.now c.args.pos c.in_ok-entry.ensures.is)

pub returns-clause-agrees : goal.returns-clause-agrees
returns-clause-agrees c = let e = host_reads c.args.source.now c.args.pos c.in_ok-entry.ensures.is c.in_ok-expect.ensures.is in search rules
