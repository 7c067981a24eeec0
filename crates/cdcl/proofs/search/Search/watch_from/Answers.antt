use Rattle.std.proofs.Common.{◌≡◌, ◌∙◌, ap, length, subst, sym, true}
use Rattle.std.specs.Prelude.{slice_get}
use Rattle.std.specs.List.{All}
use Rattle.cnf_core.specs.Clauses.{literals}
use Rattle.cnf_core.specs.Deriving.{forces, known}
use Rattle.cnf_core.specs.Literals.{Names, has_literal}
use Rattle.cnf_core.specs.TrailViews.{trues}
use Rattle.cnf_core.proofs.ClauseStatuses.{has-last}
use Rattle.cdcl.specs.States.{VisitsClause, clauses_of}
use Rattle.cdcl.specs.declared.watches.Watches.{Watches}
use Rattle.cdcl.proofs.Asserting.{unset}
use Rattle.cdcl.proofs.Attaching.{begun-once}
use Rattle.cdcl.proofs.Trailing.{at-some, forced-here, known-named, pair-named}
use Rattle.cdcl.proofs.search.Search.watch_from.Goals as goal

pub visit_clause-requires-clause-named : goal.visit_clause-requires-clause-named
visit_clause-requires-clause-named c =
    let cnf = c.args.cnf.now in
    let s = c.args.self.now in
    subst (λ v. All (Names v) (literals c.args.clause.now)) (sym c.requires.sound.same_room)
    (at-some (All (Names cnf.vars)) (clauses_of cnf s) c.args.number (literals c.args.clause.now) (known-named cnf s.steps.items c.requires.named c.requires.sound.derived) c.requires.clause)

pub watch-requires-clause-next : goal.watch-requires-clause-next
watch-requires-clause-next c =
    let s = c.args.self.now in
    let cnf = c.args.cnf.now in
    let ls = literals c.args.clause.now in
    let first = c.args.first.number in
    let pair = c.twice.result in
    let begun = c.requires.begun in
    let on = subst (VisitsClause (trues s.trail) ls first) c.in-Kept.is c.visit_clause.ensures in (
      ls,
      ap (λ n. slice_get (clauses_of cnf s) n) begun.count ∙ c.requires.clause,
      begun-once (trues s.trail) s.propagated s.starts.items ls pair begun.propagated begun.starts (c.twice.ensures.second ∙ sym c.twice.ensures.first)
          (ap (has_literal ls) c.twice.ensures.first ∙ c.requires.inside) (ap (has_literal (trues s.trail)) c.twice.ensures.first ∙ on),
    )

pub enqueue-requires-clause-named : goal.enqueue-requires-clause-named
enqueue-requires-clause-named c =
    let s = c.args.self.now in
    let cnf = c.args.cnf.now in
    let ls = literals c.args.clause.now in
    let lit = c.in-Forces.lit.number in
    let v = subst (VisitsClause (trues s.trail) ls c.args.first.number) c.in-Forces.is c.visit_clause.ensures in
    subst (λ m. Names m lit) (sym c.requires.sound.same_room)
    (pair-named cnf s.steps.items c.requires.named c.requires.sound.derived c.args.number ls c.requires.clause lit (ap (has_literal ls) v.0 ∙ c.requires.inside))

pub enqueue-requires-clause-no_value : goal.enqueue-requires-clause-no_value
enqueue-requires-clause-no_value c =
    let s = c.args.self.now in
    let ls = literals c.args.clause.now in
    let lit = c.in-Forces.lit.number in
    let v = subst (VisitsClause (trues s.trail) ls c.args.first.number) c.in-Forces.is c.visit_clause.ensures in
    unset (trues s.trail) ls lit (subst (λ l. forces (trues s.trail) ls l ≡ true) (sym v.0) v.1)

pub enqueue-requires-clause-forced : goal.enqueue-requires-clause-forced
enqueue-requires-clause-forced c =
    let s = c.args.self.now in
    let cnf = c.args.cnf.now in
    let ls = literals c.args.clause.now in
    let lit = c.in-Forces.lit.number in
    let v = subst (VisitsClause (trues s.trail) ls c.args.first.number) c.in-Forces.is c.visit_clause.ensures in
    forced-here (clauses_of cnf s) (trues s.trail) lit ls c.args.number c.requires.clause (subst (λ l. forces (trues s.trail) ls l ≡ true) (sym v.0) v.1)

pub watch-requires-in-Forces-clause-next : goal.watch-requires-in-Forces-clause-next
watch-requires-in-Forces-clause-next c =
    let s = c.args.self.now in
    let new = c.enqueue.new.self in
    let cnf = c.args.cnf.now in
    let ls = literals c.args.clause.now in
    let lit = c.in-Forces.lit.number in
    let pair = c.twice-in-Forces.result in
    let begun = c.requires.begun in
    let us = trues new.trail in
    let v = subst (VisitsClause (trues s.trail) ls c.args.first.number) c.in-Forces.is c.visit_clause.ensures in
    let count = ap (λ (w : Watches). length w.pairs.items) c.enqueue.ensures.watches ∙ begun.count in
    let on = ap (λ ts. has_literal ts lit) c.in_ok-enqueue-in-Forces.ensures.trues ∙ has-last (trues s.trail) lit in (
      ls,
      ap (λ n. slice_get (clauses_of cnf new) n) count ∙ ap (λ ss. slice_get (known cnf ss) c.args.number) c.enqueue.ensures.steps ∙ c.requires.clause,
      begun-once us new.propagated new.starts.items ls pair (c.enqueue.ensures.propagated ∙ begun.propagated) (c.enqueue.ensures.starts ∙ begun.starts) (c.twice-in-Forces.ensures.second ∙ sym c.twice-in-Forces.ensures.first)
          (ap (has_literal ls) (c.twice-in-Forces.ensures.first ∙ v.0) ∙ c.requires.inside) (ap (has_literal us) c.twice-in-Forces.ensures.first ∙ on),
    )
