use Rattle.std.proofs.Common.{sym}
use Rattle.std.specs.List.{All}
use Rattle.cnf_core.specs.Clauses.{literals}
use Rattle.cnf_core.specs.Literals.{Names}
use Rattle.cnf_core.specs.TrailViews.{room, trues}
use Rattle.proof_check.specs.KnownClauses.{clauses_of}
use Rattle.proof_check.proofs.Hinting.{at-some, hint-none, hint-has-status}
use Rattle.proof_check.proofs.step.status.Goals as goal

pub returns-in-Some : goal.returns-in-Some
returns-in-Some c =
    let vars = room c.args.trail.now in
    let cs = clauses_of c.args.known.now in
    let clause = literals c.in-Some.clause.now in
    hint-has-status vars cs (trues c.args.trail.now) c.args.hint clause (sym c.in-Some.ensures)
    (at-some (All (Names vars)) cs c.args.hint clause c.requires (sym c.in-Some.ensures)) c.status.result c.status.ensures

pub returns-in-None : goal.returns-in-None
returns-in-None c = hint-none (room c.args.trail.now) (clauses_of c.args.known.now) (trues c.args.trail.now) c.args.hint (sym c.in-None.ensures)
