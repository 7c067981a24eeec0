use Rattle.std.proofs.Common.{◌∙◌, subst, sym}
use Rattle.std.specs.List.{All}
use Rattle.std.proofs.lemmas.Option.{same_Some}
use Rattle.cnf_core.specs.Clauses.{literals}
use Rattle.cnf_core.specs.Literals.{Names}
use Rattle.cnf_core.specs.TrailViews.{trues}
use Rattle.cdcl.specs.Marks.{MarksToo}
use Rattle.cdcl.specs.States.{clauses_of}
use Rattle.cdcl.proofs.Trailing.{at-some, known-named}
use Rattle.cdcl.proofs.learning.mark_number.Goals as goal

pub mark_clause-requires-clause-named : goal.mark_clause-requires-clause-named
mark_clause-requires-clause-named c =
    let cnf = c.args.cnf.now in
    let s = c.args.search.now in
    subst (λ v. All (Names v) (literals c.in-Some.clause.now)) (sym c.requires.sound.same_room)
    (at-some (All (Names cnf.vars)) (clauses_of cnf s) c.args.number (literals c.in-Some.clause.now) (known-named cnf s.steps.items c.requires.named c.requires.sound.derived) (sym c.in-Some.ensures))

pub returns-in-Some-clause-marks : goal.returns-in-Some-clause-marks
returns-in-Some-clause-marks c = λ d e. subst (λ x. MarksToo x (trues c.args.search.now.trail) c.args.analysis.now.marks.items c.mark_clause.new.self.marks.items)
    (same_Some (literals c.in-Some.clause.now) d (c.in-Some.ensures ∙ e)) c.mark_clause.ensures.marks
