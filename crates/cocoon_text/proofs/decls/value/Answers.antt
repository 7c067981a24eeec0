use Rattle.std.proofs.Common.{rules, ◌≡◌, false, slice_get, option_map, Err, codes}
use Rattle.cocoon_syntax.specs.TreeOf.{expr_of}
use Rattle.parsing.specs.PlainParser.{body_from, is_mark}
use Rattle.cocoon_text.proofs.Closings.{body_reads, body_fails}
use Rattle.cocoon_text.proofs.Eventually.{eventual_read, agrees_read, fails_as}
use Rattle.cocoon_text.proofs.decls.value.Goals as goal

pub returns-in_err-value-clause-agrees : goal.returns-in_err-value-clause-agrees
returns-in_err-value-clause-agrees c =
    let q : is_mark (codes ";") (slice_get c.args.source.now c.args.pos) ≡ false = search rules in
    let e : c.from_residual.result ≡ Err c.in_err-value.field-0.0 = search rules in
    fails_as expr_of (λ v. option_map expr_of v) c.in_err-value.field-0.0 e (λ k g. body_fails c.args.source.now c.args.pos q g) c.in_err-value.ensures.agrees

pub returns-clause-agrees : goal.returns-clause-agrees
returns-clause-agrees c =
    let q : is_mark (codes ";") (slice_get c.args.source.now c.args.pos) ≡ false = search rules in
    agrees_read (λ v. option_map expr_of v) (body_reads c.args.source.now c.args.pos q (eventual_read expr_of c.in_ok-value.ensures.agrees))

pub returns-then-is_mark-clause-agrees : goal.returns-then-is_mark-clause-agrees
unfolding body_from
returns-then-is_mark-clause-agrees c = record { depth = 0; agrees = λ n h. search rules }
