use Rattle.std.proofs.Common.{◌≡◌, ap, subst, sym, true}
use Rattle.std.specs.List.{All}
use Rattle.cnf_core.specs.Clauses.{literals}
use Rattle.cnf_core.specs.Deriving.{forces}
use Rattle.cnf_core.specs.Literals.{Names}
use Rattle.cnf_core.specs.Trails.{HasStatus}
use Rattle.cnf_core.specs.TrailViews.{trues}
use Rattle.cdcl.specs.States.{clauses_of}
use Rattle.cdcl.proofs.Asserting.{unset}
use Rattle.cdcl.proofs.Membership.{forced-parts}
use Rattle.cdcl.proofs.Trailing.{at-some, forced-here, known-named, pair-named}
use Rattle.cdcl.proofs.search.Search.sweep_clause.Goals as goal

pub status-requires : goal.status-requires
status-requires c =
    let cnf = c.args.cnf.now in
    let s = c.args.self.now in
    subst (λ v. All (Names v) (literals c.args.clause.now)) (sym c.requires.sound.same_room)
    (at-some (All (Names cnf.vars)) (clauses_of cnf s) c.args.number (literals c.args.clause.now) (known-named cnf s.steps.items c.requires.named c.requires.sound.derived) c.requires.clause)

pub force-requires-clause-named : goal.force-requires-clause-named
force-requires-clause-named c =
    let s = c.args.self.now in
    let cnf = c.args.cnf.now in
    let ls = literals c.args.clause.now in
    let lit = c.in-Forces.lit.number in
    let h = subst (HasStatus (trues s.trail) ls) c.in-Forces.is c.status.ensures in
    subst (λ m. Names m lit) (sym c.requires.sound.same_room)
    (pair-named cnf s.steps.items c.requires.named c.requires.sound.derived c.args.number ls c.requires.clause lit (forced-parts (trues s.trail) ls lit h.1).within)

pub force-requires-clause-no_value : goal.force-requires-clause-no_value
force-requires-clause-no_value c =
    let s = c.args.self.now in
    let ls = literals c.args.clause.now in
    let lit = c.in-Forces.lit.number in
    let h = subst (HasStatus (trues s.trail) ls) c.in-Forces.is c.status.ensures in
    unset (trues s.trail) ls lit h.1

pub force-requires-clause-forced : goal.force-requires-clause-forced
force-requires-clause-forced c =
    let s = c.args.self.now in
    let cnf = c.args.cnf.now in
    let ls = literals c.args.clause.now in
    let lit = c.in-Forces.lit.number in
    let h = subst (HasStatus (trues s.trail) ls) c.in-Forces.is c.status.ensures in
    forced-here (clauses_of cnf s) (trues s.trail) lit ls c.args.number c.requires.clause h.1
