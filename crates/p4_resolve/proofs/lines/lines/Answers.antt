use Rattle.std.proofs.Common.{◌≡◌, ◌+◌, map, drop, slice_get, Err, rules, ap, sym, subst, ◌∙◌}
use Rattle.p4_ir.specs.Program as ir
use Rattle.p4_texts.specs.KindFaults.{line_pieces}
use Rattle.p4_resolve.specs.Judged.{Breaks, index}
use Rattle.p4_resolve.specs.Lines.{line_fits}
use Rattle.p4_resolve.proofs.LineFacts.{lines_left, line_piece}
use Rattle.p4_resolve.proofs.PieceFacts.{handed_on, passed, stopped_by}
use Rattle.p4_resolve.proofs.lines.lines.Goals as goal

pub returns-in_err-next-clause-stops : goal.returns-in_err-next-clause-stops
returns-in_err-next-clause-stops c = λ line nine.
    let hs = map ir.header_of c.args.headers.now in
    let xs = c.args.names.now in
    let all = line_pieces line hs xs in
    let e : c.from_residual.result ≡ Err c.in_err-next.field-0.0 = search rules in
    let is = c.is_line.ensures ∙ ap (line_fits (slice_get hs c.loop-index.index)) c.bytes.ensures in
    handed_on c.from_residual.result c.in_err-next.field-0.0 _ e
    (stopped_by c.args.at all c.loop-index.next _ _ c.in_err-next.field-0.0
    (lines_left line c.args.at all c.loop-index.next hs xs c.loop-index.index c.index-names-index.result c.loop-index-test.true c.index-names-index.is (c.loop-index.invariant line nine))
    (subst (λ b. Breaks c.loop-index.next b c.in_err-next.field-0.0) is c.in_err-next.ensures.breaks))

pub loop-index-preserved : goal.loop-index-preserved
loop-index-preserved c = λ line nine.
    let hs = map ir.header_of c.args.headers.now in
    let xs = c.args.names.now in
    let x = c.index-names-index.result in
    let all = line_pieces line hs xs in
    let is = c.is_line.ensures ∙ ap (line_fits (slice_get hs c.loop-index.index)) c.bytes.ensures in
    passed c.args.at all c.loop-index.next c.in_ok-next.next (line_piece line (slice_get hs c.loop-index.index) x) (line_pieces line (drop (c.loop-index.index + 1) hs) (drop (c.loop-index.index + 1) xs))
    (lines_left line c.args.at all c.loop-index.next hs xs c.loop-index.index x c.loop-index-test.true c.index-names-index.is (c.loop-index.invariant line nine))
    (sym is ∙ c.in_ok-next.ensures.passed.0) (c.in_ok-next.ensures.passed.1 ∙ ap (λ n. index (c.loop-index.next + n)) (sym (nine x)))
