use Rattle.std.proofs.Common.{◌∙◌, ap, arith, refl, subst, sym}
use Rattle.std.proofs.lemmas.Option.{get_or_from_slice_get, slice_get_within}
use Rattle.cnf_core.specs.Trails.{literal_at}
use Rattle.cnf_core.specs.TrailViews.{room, trues}
use Rattle.cdcl.specs.States.{PropagatesClause, clauses_of}
use Rattle.cdcl.specs.Watching.{list_of}
use Rattle.cdcl.proofs.Longer.{longer-at, longer-length, longer-more, longer-none}
use Rattle.cdcl.proofs.Looking.{looked-none, off-named}
use Rattle.cdcl.proofs.search.Search.propagate_literal.Goals as goal

pub loop-number-init : goal.loop-number-init
loop-number-init c =
    let s = c.args.self.now in
    record {
      sound = c.requires.sound;
      ready = c.requires.ready;
      same = refl;
      propagated = refl;
      longer = longer-none s s refl refl;
      less = c.requires.false_now;
      off = c.requires.off;
      looked = looked-none c.args.cnf.now.vars (clauses_of c.args.cnf.now s) (trues s.trail) s.propagated s.starts.items s.watches c.args.off.number c.requires.ready.watched;
    }

pub entry-requires : goal.entry-requires
entry-requires c =
    let s = c.loop-number.self in
    let h = c.loop-number.invariant in
    h.ready.watched.rooms c.args.off.number (omega (
      arith,
      h.sound.same_room,
      off-named (trues s.trail) s.trail.apart (room s.trail) s.trail.named s.propagated c.args.off.number h.less h.off,
    ))

pub propagate_clause-requires-clause-entry : goal.propagate_clause-requires-clause-entry
propagate_clause-requires-clause-entry c =
    let list = list_of c.loop-number.self.watches c.args.off.number in
    let e = sym c.entry.ensures.number ∙ c.in-Some.is in
    record {
      within = slice_get_within list c.loop-number.at c.in-Some.number e;
      there = get_or_from_slice_get list c.loop-number.at c.in-Some.number 0 e;
    }

pub loop-number-preserved : goal.loop-number-preserved
loop-number-preserved c =
    let s = c.loop-number.self in
    let new = c.propagate_clause.new.self in
    let h = c.loop-number.invariant in
    let e = c.in_ok-next.ensures in
    let next = subst (PropagatesClause c.args.cnf.now s new c.args.off.number c.loop-number.at c.in-Some.number) c.in-Some-2.is e.next in
    record {
      sound = e.sound;
      ready = e.ready;
      same = c.propagate_clause.ensures.steps ∙ h.same;
      propagated = c.propagate_clause.ensures.propagated ∙ h.propagated;
      longer = longer-more c.args.self.now s new h.longer e.trues;
      less = omega (arith, h.less, c.propagate_clause.ensures.propagated, longer-length s new e.trues);
      off = ap (λ p. literal_at (trues new.trail) p) c.propagate_clause.ensures.propagated ∙ longer-at s new s.propagated h.less e.trues ∙ h.off;
      looked = next.0;
    }

pub loop-number-smaller : goal.loop-number-smaller
loop-number-smaller c =
    let s = c.loop-number.self in
    let new = c.propagate_clause.new.self in
    let e = c.in_ok-next.ensures in
    let next = subst (PropagatesClause c.args.cnf.now s new c.args.off.number c.loop-number.at c.in-Some.number) c.in-Some-2.is e.next in
    let there = slice_get_within (list_of s.watches c.args.off.number) c.loop-number.at c.in-Some.number (sym c.entry.ensures.number ∙ c.in-Some.is) in
    omega (arith, next.1, there)
