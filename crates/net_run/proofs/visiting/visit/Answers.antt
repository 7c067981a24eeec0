use Rattle.std.proofs.Common.{◌≡◌, ◌+◌, ◌++◌, [], ◌∷◌, drop, IfSome, length, map, slice_index_or, sym, subst, ap, ◌∙◌, arith}
use Rattle.std.proofs.lemmas.List.{drop_more}
use Rattle.cocoon_num.specs.Lists.{has_number}
use Rattle.cocoon_num.specs.PacketForms.{AreBytes}
use Rattle.packed_fields.specs.AtOnce.{bytes_in}
use Rattle.p4_ir.specs.Switch.{egress_of, switch_go}
use Rattle.p4_run.specs.Frames.{left_in}
use Rattle.p4_run.specs.Running.{layout_in, program_in, rows_in}
use Rattle.p4_run.specs.Visits.{AreHeaders, departs, ingress_left}
use Rattle.p4_run.proofs.VisitSteps.{are_bytes}
use Rattle.p4_run.proofs.FitFacts.{declared_at}
use Rattle.net_run.specs.DepartedOf.{departed_of}
use Rattle.net_run.specs.Departures.{departures, members_after, put}
use Rattle.net_run.proofs.MemberSteps.{before_copies, is_listed, member_departs, member_put}
use Rattle.net_run.proofs.visiting.visit.Goals as goal

pub loop-member-init : goal.loop-member-init
loop-member-init c =
    let l = c.args.loaded.now in
    let p = program_in l in
    let rows = rows_in l in
    let bytes = c.args.bytes.now in
    let headers = c.headers.result.now in
    let all : AreBytes bytes = are_bytes bytes (λ k. omega (arith, c.type_inv.bytes k)) in
    let size : length headers ≡ bytes_in (layout_in l) = ap length c.headers.ensures ∙ c.ingress-next.ensures.fits.bytes in
    let are : AreHeaders (layout_in l) (ingress_left p rows c.args.port bytes) headers =
    subst (AreHeaders (layout_in l) (ingress_left p rows c.args.port bytes)) (sym c.headers.ensures) c.ingress-next.ensures.headers in
    let made = c.in_ok-push_departed.ensures ∙ ap (λ xs. map departed_of xs ++ put [] (departs c.ingress-next.result headers bytes) []) c.none_departed-all.ensures in
    record {
      fits = c.ingress-next.ensures.fits;
      left = c.ingress-next.ensures.left;
      all = before_copies p rows c.args.port headers bytes c.ingress-next.result c.members_after-members.result.now _ (declared_at p l.kinds).whole all size are c.ingress-next.ensures.next
          c.members_after-members.ensures made;
    }

pub loop-member-preserved : goal.loop-member-preserved
loop-member-preserved c =
    let l = c.args.loaded.now in
    let p = program_in l in
    let rows = rows_in l in
    let bytes = c.args.bytes.now in
    let headers = c.headers-in-loop-member.result.now in
    let ms = c.members_after-members.result.now in
    let i = c.loop-member.member-index in
    let m = slice_index_or ms i 0 in
    let before = left_in l c.loop-member.frame in
    let inside = ingress_left p rows c.args.port bytes in
    let all : AreBytes bytes = are_bytes bytes (λ k. omega (arith, c.type_inv.bytes k)) in
    let size : length headers ≡ bytes_in (layout_in l) = ap length c.headers-in-loop-member.ensures ∙ c.egress-next.ensures.fits.bytes in
    let are : AreHeaders (layout_in l) (egress_of p rows m before) headers =
    subst (AreHeaders (layout_in l) (egress_of p rows m before)) (sym c.headers-in-loop-member.ensures) c.egress-next.ensures.headers in
    let has = ap (has_number m) (sym (c.members_after-members.ensures ∙ ap (members_after rows) c.ingress-next.ensures.next)) ∙ is_listed ms i 0 c.loop-member-test.true in
    let departs_for : switch_go p rows 0 c.args.port bytes (m ∷ []) ≡ departs c.egress-next.result headers bytes =
    member_departs p rows c.args.port m headers bytes before (declared_at p l.kinds).whole all size c.loop-member.invariant.left are has
    ∙ ap (λ n. departs n headers bytes) (sym c.egress-next.ensures.next) in
    record {
      fits = c.egress-next.ensures.fits;
      left = subst (λ x. IfSome inside (λ s. x ≡ s)) (sym c.egress-next.ensures.left) c.loop-member.invariant.left;
      all = member_put (map departed_of c.loop-member.all.items) _ (departures p rows c.args.port bytes) (switch_go p rows 0 c.args.port bytes) m (drop i ms) (drop (i + 1) ms)
          (departs c.egress-next.result headers bytes) (drop_more ms i 0 c.loop-member-test.true) departs_for c.in_ok-push_departed-2.ensures c.loop-member.invariant.all;
    }
