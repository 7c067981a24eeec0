use Rattle.std.proofs.Common.{sym, ap, ◌∙◌, [], get_or}
use Rattle.std.specs.List.{All}
use Rattle.std.proofs.lemmas.Option.{get_or_from_slice_get, none-some, slice_get-get_or}
use Rattle.cnf_core.specs.Clauses.{literals}
use Rattle.cnf_core.specs.Licensing.{subsumed_by}
use Rattle.cnf_core.specs.Literals.{Names}
use Rattle.cnf_core.specs.TrailViews.{room, trues}
use Rattle.proof_check.specs.KnownClauses.{clauses_of}
use Rattle.proof_check.proofs.Hinting.{at-some}
use Rattle.proof_check.proofs.subsumption.subsumes.Goals as goal

pub are_true-requires : goal.are_true-requires
are_true-requires c =
    at-some (All (Names (room c.args.trail.now))) (clauses_of c.args.known.now) c.args.number (literals c.in-Some.clause.now) c.requires.named (sym c.in-Some.ensures)

pub returns-in-Some : goal.returns-in-Some
returns-in-Some c = c.are_true.ensures
    ∙ ap (subsumed_by (trues c.args.trail.now)) (sym (get_or_from_slice_get (clauses_of c.args.known.now) c.args.number (literals c.in-Some.clause.now) [] (sym c.in-Some.ensures)))

pub returns-in-None : goal.returns-in-None
returns-in-None c =
    let cs = clauses_of c.args.known.now in
    absurd (none-some (get_or cs c.args.number []) (c.in-None.ensures ∙ slice_get-get_or cs c.args.number [] c.requires.within))
