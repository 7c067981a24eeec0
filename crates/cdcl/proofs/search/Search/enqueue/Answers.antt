use Rattle.std.proofs.Common.{subst, sym}
use Rattle.cnf_core.specs.Deriving.{known}
use Rattle.cnf_core.specs.TrailViews.{trues}
use Rattle.cdcl.specs.States.{clauses_of}
use Rattle.cdcl.specs.Watching.{IsWatched}
use Rattle.cdcl.proofs.Looking.{watched-push}
use Rattle.cdcl.proofs.search.Search.enqueue.Goals as goal

pub returns-clause-watched : goal.returns-clause-watched
returns-clause-watched c =
    let s = c.args.self.now in
    let new = c.force.new.self in
    let cnf = c.args.cnf.now in
    let us = trues new.trail in
    let same = c.force.ensures in
    let watched = watched-push cnf.vars (clauses_of cnf s) (trues s.trail) us s.propagated s.starts.items s.watches c.args.lit.number c.in_ok-force.ensures.trues c.requires.watched in
    subst (λ w. IsWatched cnf.vars (clauses_of cnf new) us new.propagated new.starts.items w) (sym same.watches)
    (subst (λ bs. IsWatched cnf.vars (clauses_of cnf new) us new.propagated bs s.watches) (sym same.starts)
    (subst (λ p. IsWatched cnf.vars (clauses_of cnf new) us p s.starts.items s.watches) (sym same.propagated)
    (subst (λ ss. IsWatched cnf.vars (known cnf ss) us s.propagated s.starts.items s.watches) (sym same.steps) watched)))
