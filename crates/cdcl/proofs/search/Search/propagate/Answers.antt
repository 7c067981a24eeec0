use Rattle.std.proofs.Common.{◌≡◌, ◌<◌, ◌∙◌, ap, arith, length, subst, sym}
use Rattle.cnf_core.specs.Literals.{opposite}
use Rattle.cnf_core.specs.Trails.{literal_at}
use Rattle.cnf_core.specs.TrailViews.{room, trues}
use Rattle.cnf_core.proofs.LiteralFacts.{opposite-opposite}
use Rattle.cdcl.specs.States.{PropagatesLiteral, clauses_of}
use Rattle.cdcl.proofs.Longer.{longer-at, longer-length}
use Rattle.cdcl.proofs.Looking.{watched-propagated}
use Rattle.cdcl.proofs.Opening.{watched-closed}
use Rattle.cdcl.proofs.search.Search.propagate.Goals as goal

pub loop-self-preserved : goal.loop-self-preserved
loop-self-preserved c =
    let s = c.loop-self.self in
    let new = c.propagate_literal.new.self in
    let cnf = c.args.cnf.now in
    let h = c.loop-self.invariant in
    let e = c.in_ok-conflict.ensures in
    let off = c.opposite.result.number in
    let propagated = c.propagate_literal.ensures.propagated in
    let lt : s.propagated < length (trues s.trail) = omega (arith, c.loop-self-test.true, c.len.ensures) in
    let off_now : literal_at (trues new.trail) new.propagated ≡ opposite off
    = ap (λ p. literal_at (trues new.trail) p) propagated ∙ longer-at s new s.propagated lt e.trues ∙ sym c.literal-lit.ensures ∙ sym (ap opposite c.opposite.ensures ∙ opposite-opposite c.literal-lit.result.number) in
    let found = subst (PropagatesLiteral cnf new off) c.in_default.is e.found in
    record {
      sound = record { same_room = e.sound.same_room; derived = e.sound.derived; new = e.sound.new; reasoned = e.sound.reasoned };
      ready = record {
        count = e.ready.count;
        watched = watched-propagated cnf.vars (clauses_of cnf new) (trues new.trail) new.propagated new.starts.items new.watches off (omega (arith, propagated, lt, longer-length s new e.trues)) off_now found e.ready.watched;
      };
      same = c.propagate_literal.ensures.steps ∙ h.same;
      fewer = omega (arith, h.fewer, e.trues.fewer);
    }

pub returns-clause-settled : goal.returns-clause-settled
returns-clause-settled c =
    let s = c.loop-self.self in
    let cnf = c.args.cnf.now in
    let h = c.loop-self.invariant in
    let all : s.propagated ≡ length (trues s.trail) = omega (arith, c.loop-self-test.false, c.len.ensures, h.ready.watched.propagated_true) in
    (all, watched-closed (trues s.trail) s.trail.apart (room s.trail) s.trail.named cnf.vars (clauses_of cnf s) s.propagated s.starts.items s.watches h.ready.count all h.ready.watched)
