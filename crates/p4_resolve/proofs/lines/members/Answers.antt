use Rattle.std.proofs.Common.{◌≡◌, ◌+◌, map, drop, slice_get, Err, rules, sym, subst, ◌∙◌}
use Rattle.p4_ir.specs.Program as ir
use Rattle.p4_texts.specs.KindFaults.{member_pieces}
use Rattle.p4_texts.specs.TreeOf.{member_of}
use Rattle.p4_resolve.specs.Judged.{Breaks}
use Rattle.p4_resolve.proofs.LineFacts.{members_left, member_piece}
use Rattle.p4_resolve.proofs.PieceFacts.{handed_on, passed, stopped_by}
use Rattle.p4_resolve.proofs.lines.members.Goals as goal

pub returns-in_err-next-clause-stops : goal.returns-in_err-next-clause-stops
returns-in_err-next-clause-stops c =
    let hs = map ir.header_of c.args.headers.now in
    let ms = c.args.members.now in
    let all = member_pieces hs (map member_of ms) in
    let e : c.from_residual.result ≡ Err c.in_err-next.field-0.0 = search rules in
    handed_on c.from_residual.result c.in_err-next.field-0.0 _ e
    (stopped_by c.args.at all c.loop-index.next _ _ c.in_err-next.field-0.0
    (members_left c.args.at all c.loop-index.next hs ms c.loop-index.index c.index-members-index.result c.loop-index-test.true c.index-members-index.is c.loop-index.invariant)
    (subst (λ b. Breaks c.loop-index.next b c.in_err-next.field-0.0) c.is_member.ensures c.in_err-next.ensures.breaks))

pub loop-index-preserved : goal.loop-index-preserved
loop-index-preserved c =
    let hs = map ir.header_of c.args.headers.now in
    let ms = c.args.members.now in
    let all = member_pieces hs (map member_of ms) in
    passed c.args.at all c.loop-index.next c.in_ok-next.next (member_piece (slice_get hs c.loop-index.index) (member_of c.index-members-index.result)) (member_pieces (drop (c.loop-index.index + 1) hs) (map member_of (drop (c.loop-index.index + 1) ms)))
    (members_left c.args.at all c.loop-index.next hs ms c.loop-index.index c.index-members-index.result c.loop-index-test.true c.index-members-index.is c.loop-index.invariant)
    (sym c.is_member.ensures ∙ c.in_ok-next.ensures.passed.0) c.in_ok-next.ensures.passed.1
