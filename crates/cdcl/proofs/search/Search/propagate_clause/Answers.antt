use Rattle.std.proofs.Common.{◌≡◌, ◌≢◌, ◌+◌, ◌≤◌, ◌∙◌, ◌⊎◌, ap, arith, inl, inr, length, subst, sym, true, Some, ℕ, ℤ}
use Rattle.std.specs.Prelude.{slice_get}
use Rattle.std.proofs.Math.ListN.{length-set, set}
use Rattle.std.proofs.lemmas.Option.{same_Some, slice_get_within}
use Rattle.cnf_core.specs.Deriving.{forces}
use Rattle.cnf_core.specs.Literals.{Names, has_literal}
use Rattle.cnf_core.specs.TrailViews.{room, trues}
use Rattle.cdcl.specs.States.{VisitsNumber, clauses_of}
use Rattle.cdcl.specs.Watching.{AreWatched, IsListed, IsLookedAt, list_of}
use Rattle.cdcl.specs.declared.watches.Pair.{Pair}
use Rattle.cdcl.proofs.Looking.{looked-changed, looked-next, looked-push, off-not-true, opposite-true, watched-changed}
use Rattle.cdcl.proofs.Membership.{forced-parts}
use Rattle.cdcl.proofs.Trailing.{pair-named}
use Rattle.cdcl.proofs.Watched.{same-other}
use Rattle.cnf_core.proofs.ClauseStatuses.{has-last}
use Rattle.cdcl.proofs.search.Search.propagate_clause.Goals as goal

pub change-requires-clause-second : goal.change-requires-clause-second
change-requires-clause-second c =
    let s = c.args.self.now in
    let cnf = c.args.cnf.now in
    let off = c.args.off.number in
    let n = c.args.number in
    let pair = c.in-Moved.pair in
    let v = subst (VisitsNumber cnf s n off) c.in-Moved.is c.visit.ensures in
    c.requires.ready.watched.rooms pair.second.number (pair-named cnf s.steps.items c.requires.named c.requires.sound.derived n v.clause v.known pair.second.number v.visits.2).1

pub change-requires-clause-known : goal.change-requires-clause-known
change-requires-clause-known c =
    let s = c.args.self.now in
    let cnf = c.args.cnf.now in
    let off = c.args.off.number in
    let n = c.args.number in
    let v = subst (VisitsNumber cnf s n off) c.in-Moved.is c.visit.ensures in
    let entry = c.requires.entry in
    omega (arith, entry.there, slice_get_within s.watches.pairs.items n v.pair v.at)

pub returns-in_ok-change-in-Moved-clause-ready : goal.returns-in_ok-change-in-Moved-clause-ready
returns-in_ok-change-in-Moved-clause-ready c =
    let s = c.args.self.now in
    let cnf = c.args.cnf.now in
    let ts = trues s.trail in
    let cs = clauses_of cnf s in
    let off = c.args.off.number in
    let n = c.args.number in
    let false_now = opposite-true ts s.trail.apart (room s.trail) s.trail.named s.propagated off c.requires.false_now c.requires.off in
    let not_true_now = off-not-true ts s.trail.apart (room s.trail) s.trail.named s.propagated off c.requires.false_now c.requires.off in
    let pair = c.in-Moved.pair in
    let v = subst (VisitsNumber cnf s n off) c.in-Moved.is c.visit.ensures in
    let firsts : pair.first.number ≡ v.other = v.visits.0 in
    let are = subst (AreWatched v.pair off) (sym firsts) v.watched in
    let differ : pair.second.number ≢ pair.first.number = λ e. v.visits.1 (e ∙ firsts) in
    let entry = c.requires.entry in
    let new = c.change.new.self in
    let e = c.in_ok-change-in-Moved.ensures in
    let changed = e.pairs ∙ ap (λ i. set s.watches.pairs.items i pair) entry.there in
    let kept : (l : ℤ) (k : ℕ) → (l ≢ off) ⊎ (k ≢ n) → IsListed (list_of s.watches l) 0 k → IsListed (list_of new l) 0 k
    = λ l k d h. e.kept l 0 k (omega arith) (elim d [ inl other ↦ inl other | inr other ↦ inr (λ is. other (is ∙ entry.there)) ]) h in
    let here = subst (IsListed (list_of new pair.second.number) 0) entry.there e.listed in
    record {
      count = ap length changed ∙ length-set s.watches.pairs.items n pair ∙ c.requires.ready.count;
      watched = watched-changed cs ts s.propagated s.starts.items s.watches new off n v.pair pair false_now not_true_now v.at are changed differ v.visits.3
          cnf.vars v.clause v.known v.visits.2 kept here c.change.ensures.rooms c.requires.ready.watched;
    }

pub returns-in_ok-change-in-Moved-clause-next : goal.returns-in_ok-change-in-Moved-clause-next
returns-in_ok-change-in-Moved-clause-next c =
    let s = c.args.self.now in
    let cnf = c.args.cnf.now in
    let ts = trues s.trail in
    let cs = clauses_of cnf s in
    let off = c.args.off.number in
    let n = c.args.number in
    let false_now = opposite-true ts s.trail.apart (room s.trail) s.trail.named s.propagated off c.requires.false_now c.requires.off in
    let not_true_now = off-not-true ts s.trail.apart (room s.trail) s.trail.named s.propagated off c.requires.false_now c.requires.off in
    let pair = c.in-Moved.pair in
    let v = subst (VisitsNumber cnf s n off) c.in-Moved.is c.visit.ensures in
    let firsts : pair.first.number ≡ v.other = v.visits.0 in
    let are = subst (AreWatched v.pair off) (sym firsts) v.watched in
    let differ : pair.second.number ≢ pair.first.number = λ e. v.visits.1 (e ∙ firsts) in
    let entry = c.requires.entry in
    let new = c.change.new.self in
    let e = c.in_ok-change-in-Moved.ensures in
    let changed = e.pairs ∙ ap (λ i. set s.watches.pairs.items i pair) entry.there in
    let kept : (l : ℤ) (k : ℕ) → (l ≢ off) ⊎ (k ≢ n) → IsListed (list_of s.watches l) 0 k → IsListed (list_of new l) 0 k
    = λ l k d h. e.kept l 0 k (omega arith) (elim d [ inl other ↦ inl other | inr other ↦ inr (λ is. other (is ∙ entry.there)) ]) h in
    let here = subst (IsListed (list_of new pair.second.number) 0) entry.there e.listed in
    let more : (k : ℕ) → k ≢ n → IsListed (list_of s.watches off) c.args.at k → IsListed (list_of new off) c.args.at k
    = λ k other h. e.kept off c.args.at k (omega arith) (inr (λ is. other (is ∙ entry.there))) h in (
      looked-changed cs ts s.propagated s.starts.items s.watches new off n v.pair pair false_now not_true_now v.at are changed differ v.visits.3
          cnf.vars v.clause v.known v.visits.2 kept here c.change.ensures.rooms c.requires.ready.watched c.args.at more c.requires.before,
      omega (arith, e.fewer),
    )

pub enqueue-requires-clause-named : goal.enqueue-requires-clause-named
enqueue-requires-clause-named c =
    let s = c.args.self.now in
    let cnf = c.args.cnf.now in
    let ts = trues s.trail in
    let off = c.args.off.number in
    let n = c.args.number in
    let lit = c.in-Forces.lit.number in
    let v = subst (VisitsNumber cnf s n off) c.in-Forces.is c.visit.ensures in
    let forcing = subst (λ l. forces ts v.clause l ≡ true) (sym v.visits.0) v.visits.1 in
    subst (λ m. Names m lit) (sym c.requires.sound.same_room)
    (pair-named cnf s.steps.items c.requires.named c.requires.sound.derived n v.clause v.known lit (forced-parts ts v.clause lit forcing).within)

pub returns-in_ok-enqueue-in-Forces-clause-next : goal.returns-in_ok-enqueue-in-Forces-clause-next
returns-in_ok-enqueue-in-Forces-clause-next c =
    let s = c.args.self.now in
    let cnf = c.args.cnf.now in
    let ts = trues s.trail in
    let off = c.args.off.number in
    let n = c.args.number in
    let lit = c.in-Forces.lit.number in
    let v = subst (VisitsNumber cnf s n off) c.in-Forces.is c.visit.ensures in
    let us = trues c.enqueue.new.self.trail in
    let at = c.args.at in
    let pushed = c.in_ok-enqueue-in-Forces.ensures.trues in
    let old = s.watches in
    let here : (pair : Pair) (b : ℤ) → slice_get old.pairs.items n ≡ Some pair → AreWatched pair off b → has_literal us b ≡ true
    = λ pair b e h.
    let is : lit ≡ b = v.visits.0 ∙ same-other pair off v.other b (subst (λ q. AreWatched q off v.other) (same_Some v.pair pair (sym v.at ∙ e)) v.watched) h in
    ap (has_literal us) (sym is) ∙ ap (λ vs. has_literal vs lit) pushed ∙ has-last ts lit in
    subst (λ w. IsLookedAt us w off (at + 1) × (length (list_of w off) + at + 1 ≤ length (list_of old off) + (at + 1))) (sym c.enqueue.ensures.watches)
    (looked-next us old off at n c.requires.entry.there here (looked-push ts us old off lit at pushed c.requires.before), omega arith)
